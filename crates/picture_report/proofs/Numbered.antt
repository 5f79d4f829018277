-- How many marks all tenants have.
use Rattle.std.proofs.Common.{◌≡◌, ℕ, zero, suc, ◌+◌, ◌<◌, ◌==◌, cond, List, [], ◌∷◌, length, refl, sym, ap, ◌∙◌, subst, arith, nat_lt}
use Rattle.std.proofs.lemmas.Bool.Decides.{nat_tests}
use Rattle.std.proofs.lemmas.List.{length-map}
use Rattle.std.proofs.lemmas.List.Elements.{All-head, All-tail}
use Rattle.std.proofs.lemmas.List.FromFn.{sum_by-map-range_with_len_more}
use Rattle.std.proofs.lemmas.List.Sums.{length-filter, sum_by-cons}
use Rattle.std.specs.List.{All, count_by, filter, sum_by}
use Rattle.picture_marks.specs.declared.marks.Mark.{Mark}
use Rattle.quota_pool.specs.declared.moved.Moved.{Moved}
use Rattle.trace_text.specs.declared.traces.Row.{Row}
use Rattle.picture_report.specs.Told.{RowsAreMarked, all_marks, mark_of, marks_at}

-- how many rows a tenant has
abbrev share : List (Row × Moved) → ℕ → ℕ
share lines tenant = count_by (λ (row, answer). row.tenant == tenant) lines

-- how many rows the tenants below a number have
abbrev below : ℕ → List (Row × Moved) → ℕ
below tenants lines = count_by (λ (row, answer). nat_lt row.tenant tenants) lines

one_more : (tenant n : ℕ) → cond {A = ℕ} (nat_lt tenant (n + 1)) 1 0 ≡ cond (nat_lt tenant n) 1 0 + cond (tenant == n) 1 0
one_more tenant n = grind (arith, nat_tests)

none_inside : (tenant : ℕ) → cond {A = ℕ} (nat_lt tenant 0) 1 0 ≡ 0
none_inside tenant = grind (arith, nat_tests)

one_inside : (tenant n : ℕ) → tenant < n → cond {A = ℕ} (nat_lt tenant n) 1 0 ≡ 1
one_inside tenant n less = grind (arith, nat_tests)

none_below : (lines : List (Row × Moved)) → below 0 lines ≡ 0
none_below [] = refl
none_below (line ∷ lines) =
    let first = sum_by-cons (λ (l : Row × Moved). cond (nat_lt l.0.tenant 0) 1 0) line lines in
    let rest = none_below lines in
    let out = none_inside line.0.tenant in
    omega arith

more_below : (n : ℕ) (lines : List (Row × Moved)) → below (n + 1) lines ≡ below n lines + share lines n
more_below n [] = refl
more_below n (line ∷ lines) =
    let longer = sum_by-cons (λ (l : Row × Moved). cond (nat_lt l.0.tenant (n + 1)) 1 0) line lines in
    let first = sum_by-cons (λ (l : Row × Moved). cond (nat_lt l.0.tenant n) 1 0) line lines in
    let same = sum_by-cons (λ (l : Row × Moved). cond (l.0.tenant == n) 1 0) line lines in
    let one = one_more line.0.tenant n in
    let rest = more_below n lines in
    omega arith

all_below : (tenants : ℕ) (lines : List (Row × Moved)) → All (λ line. line.0.tenant < tenants) lines → below tenants lines ≡ length lines
all_below tenants [] within = refl
all_below tenants (line ∷ lines) within =
    let first = sum_by-cons (λ (l : Row × Moved). cond (nat_lt l.0.tenant tenants) 1 0) line lines in
    let less = All-head (λ (l : Row × Moved). l.0.tenant < tenants) line lines within in
    let rest = all_below tenants lines (All-tail (λ (l : Row × Moved). l.0.tenant < tenants) line lines within) in
    let one = one_inside line.0.tenant tenants less in
    omega arith

-- a tenant has a mark of each of its rows
marks-share : (lines : List (Row × Moved)) (tenant : ℕ) → length (marks_at tenant lines) ≡ share lines tenant
marks-share lines tenant =
    length-map (filter (λ (l : Row × Moved). l.0.tenant == tenant) lines) mark_of ∙ length-filter (λ (l : Row × Moved). l.0.tenant == tenant) lines

marks_below : (tenants : ℕ) (lines : List (Row × Moved)) → sum_by length (all_marks tenants lines) ≡ below tenants lines
marks_below zero lines = sym (none_below lines)
marks_below (suc n) lines =
    let more = sum_by-map-range_with_len_more (λ (marks : List Mark). length marks) (λ tenant. marks_at tenant lines) 0 n n (omega arith) in
    let rest = marks_below n lines in
    let own = marks-share lines n in
    let now = more_below n lines in
    let next : n + 1 ≡ suc n = omega arith in
    subst (λ (k : ℕ). sum_by length (all_marks k lines) ≡ below k lines) next (more ∙ ap (λ s. s + length (marks_at n lines)) rest ∙ ap (λ s. below n lines + s) own ∙ sym now)

pub rows-marked : RowsAreMarked
rows-marked tenants lines within = marks_below tenants lines ∙ all_below tenants lines within
