-- The marks of tenants, row by row.
use Rattle.std.proofs.Common.{◌≡◌, ◌≢◌, ℕ, ◌+◌, ◌<◌, ◌==◌, Bool, true, false, None, cond, List, [], ◌∷◌, ◌++◌, length, get_or, set, take, map, refl, sym, ap, ◌∙◌, arith, inl, inr, append-nil, get_or-set_other, get_or-set_same, replicate}
use Rattle.std.proofs.lemmas.Bool.{cases_eq}
use Rattle.std.proofs.lemmas.Bool.Decides.{nat_tests}
use Rattle.std.proofs.lemmas.List.{get_or-replicate, length-replicate, length-set, map-append}
use Rattle.std.proofs.lemmas.List.Elements.{filter_more}
use Rattle.std.proofs.lemmas.List.FromFn.{fill_by_all, get_or-map-range_with_len, length-map-range_with_len}
use Rattle.std.proofs.lemmas.Slice.Zip.{get_or-zip}
use Rattle.std.specs.List.{filter, zip}
use Rattle.picture_marks.specs.declared.marks.Mark.{Mark}
use Rattle.quota_pool.specs.declared.moved.Moved.{Moved}
use Rattle.replay_report.proofs.Lines.{length-zip}
use Rattle.trace_text.specs.declared.traces.Op.TheVariants.{Add}
use Rattle.trace_text.specs.declared.traces.Row.{Row}
use Rattle.picture_report.specs.Told.{all_marks, mark_of, marks_at}

-- what is read where there is no row or no answer
abbrev pub no_row : Row
no_row = record { at = 0; worker = 0; op = Add; tenant = 0; amount = 0 }

abbrev pub no_answer : Moved
no_answer = record { before = 0; moved = 0; way = None }

-- whether a line is a tenant's
abbrev is_of : ℕ → Row × Moved → Bool
is_of tenant (row, answer) = row.tenant == tenant

-- the marks with one more line, by whether it is the tenant's
line-more : (tenant : ℕ) (lines : List (Row × Moved)) (i : ℕ) (d : Row × Moved) (own : Bool) → i < length lines → is_of tenant (get_or lines i d) ≡ own
    → marks_at tenant (take (i + 1) lines) ≡ marks_at tenant (take i lines) ++ map mark_of (cond own (get_or lines i d ∷ []) [])
line-more tenant lines i d own within test =
    let before = filter (is_of tenant) (take i lines) in
    ap (map mark_of) (filter_more (is_of tenant) lines i d within)
    ∙ ap (λ b. map mark_of (before ++ cond b (get_or lines i d ∷ []) [])) test
    ∙ map-append mark_of before (cond own (get_or lines i d ∷ []) [])

-- the line of a row
line-is : (rows : List Row) (answers : List Moved) (i : ℕ) (row : Row) (answer : Moved) → i < length rows → length answers ≡ length rows → get_or (zip rows answers) i (row, answer) ≡ (get_or rows i row, get_or answers i answer)
line-is rows answers i row answer within same = get_or-zip rows answers i (row, answer) within (omega arith)

-- a row of the tenant has its mark
pub mark-more : (tenant : ℕ) (rows : List Row) (answers : List Moved) (i : ℕ) (row : Row) (answer : Moved) → i < length rows → length answers ≡ length rows → (get_or rows i row).tenant ≡ tenant
    → marks_at tenant (take (i + 1) (zip rows answers)) ≡ marks_at tenant (take i (zip rows answers)) ++ mark_of (get_or rows i row, get_or answers i answer) ∷ []
mark-more tenant rows answers i row answer within same own =
    let lines = zip rows answers in
    let count = length-zip rows answers (omega arith) in
    let line = line-is rows answers i row answer within same in
    let test : ((get_or rows i row).tenant == tenant) ≡ true = grind (arith, nat_tests) in
    line-more tenant lines i (row, answer) true (omega arith) (ap (is_of tenant) line ∙ test)
    ∙ ap (λ p. marks_at tenant (take i lines) ++ mark_of p ∷ []) line

-- .. and one of another tenant has none
pub mark-other : (tenant : ℕ) (rows : List Row) (answers : List Moved) (i : ℕ) (row : Row) (answer : Moved) → i < length rows → length answers ≡ length rows → (get_or rows i row).tenant ≢ tenant
    → marks_at tenant (take (i + 1) (zip rows answers)) ≡ marks_at tenant (take i (zip rows answers))
mark-other tenant rows answers i row answer within same other =
    let lines = zip rows answers in
    let count = length-zip rows answers (omega arith) in
    let line = line-is rows answers i row answer within same in
    let test : ((get_or rows i row).tenant == tenant) ≡ false = grind (arith, nat_tests) in
    line-more tenant lines i (row, answer) false (omega arith) (ap (is_of tenant) line ∙ test)
    ∙ append-nil (marks_at tenant (take i lines))

-- the marks of all tenants with one more row, whose mark stands behind those of its tenant
pub all-more : (lists : List (List Mark)) (list : List Mark) (count : ℕ) (rows : List Row) (answers : List Moved) (i : ℕ) (row : Row) (answer : Moved)
    → i < length rows → length answers ≡ length rows → (get_or rows i row).tenant < count → lists ≡ all_marks count (take i (zip rows answers))
    → list ≡ get_or lists (get_or rows i row).tenant [] ++ mark_of (get_or rows i row, get_or answers i answer) ∷ []
    → set lists (get_or rows i row).tenant list ≡ all_marks count (take (i + 1) (zip rows answers))
all-more lists list count rows answers i row answer within same inside known grown =
    let lines = zip rows answers in
    let at = (get_or rows i row).tenant in
    let mark = mark_of (get_or rows i row, get_or answers i answer) in
    let sized : length lists ≡ count = ap length known ∙ length-map-range_with_len (λ tenant. marks_at tenant (take i lines)) 0 count in
    let before = λ (tenant : ℕ) (less : tenant < count). ap (λ ls. get_or ls tenant []) known ∙ get_or-map-range_with_len (λ tenant. marks_at tenant (take i lines)) 0 count tenant tenant [] less (omega arith) in
    fill_by_all (λ tenant. marks_at tenant (take (i + 1) lines)) (set lists at list) count [] (length-set lists at list ∙ sized)
    (λ tenant less. elim (cases_eq tenant at) [
      | inl here ↦
          let known_size : at < length lists = omega arith in
          let now : get_or (set lists at list) tenant [] ≡ list = rw here (get_or-set_same lists at list [] known_size) in
          now ∙ grown ∙ ap (λ marks. marks ++ mark ∷ []) (before at inside) ∙ sym (mark-more at rows answers i row answer within same refl) ∙ ap (λ n. marks_at n (take (i + 1) lines)) (sym here)
      | inr other ↦
          let apart : at ≢ tenant = omega arith in
          let now : get_or (set lists at list) tenant [] ≡ get_or lists tenant [] = rw get_or-set_other refl in
          now ∙ before tenant less ∙ sym (mark-other tenant rows answers i row answer within same apart)
    ])

-- no tenant has marks of no rows
pub none-yet : (count : ℕ) → replicate count [] ≡ all_marks count []
none-yet count = fill_by_all (λ tenant. []) (replicate count []) count [] (length-replicate count []) (λ k less. get_or-replicate count k [] [] less)
