-- What passes are allowed by the lines so far.
use Rattle.std.proofs.Common.{◌≡◌, ◌≢◌, ℕ, zero, suc, ◌+◌, ◌<◌, ◌≤◌, Bool, true, false, List, [], ◌∷◌, length, get_or, take, refl, sym, ◌∙◌, arith, inl, inr, eq-eqb, ne_eqb, rules, tests, length-set}
use Rattle.std.specs.Prelude.{◌==◌, if◌then◌else◌, map, replicate, slice_set}
use Rattle.std.specs.List.{All, AllByRecursion, range_with_len, sum}
use Rattle.std.proofs.lemmas.Bool.{cases_Bool}
use Rattle.std.proofs.lemmas.List.{get_or-replicate, length-replicate, get_or-set_other}
use Rattle.std.proofs.lemmas.Grind.{get_or-set_at, get_or_default_zero}
use Rattle.std.proofs.lemmas.List.FromFn.{sum_by-map-range_with_len_more, fill_by_all, get_or-map-range_with_len, length-map-range_with_len}
use Rattle.std.proofs.lemmas.List.Sums.{sum_by-cons, sum_by_more, sum_by_more_le, sum_by_more_le_part}
use Rattle.std.proofs.lemmas.List.Folds.{sum_by-replicate}
use Rattle.std.proofs.lemmas.List.Elements.{recursion_from_All}
use Rattle.script_text.specs.Laws.{AllowancesAddUp, LinesAreAllowed}
use Rattle.script_text.specs.Order.{amount}
use Rattle.script_text.specs.Sound.{HasPasses, allowance, allowances, total_amount}
use Rattle.script_text.specs.declared.scripts.ScriptLine.{ScriptLine}

-- the part of a line's amount that counts for a pass
abbrev share : ℕ → ScriptLine → ℕ
share pass line = if line.pass == pass then amount line.order else 0

part_le : (b : Bool) (n : ℕ) → (if b then n else 0) ≤ n
part_le true n = omega arith
part_le false n = omega arith

share-le : (pass : ℕ) (line : ScriptLine) → share pass line ≤ amount line.order
share-le pass line = part_le (line.pass == pass) (amount line.order)

-- as many numbers as passes, each what its pass is allowed
allowances-by : (xs : List ℕ) (lines : List ScriptLine) (passes : ℕ) → length xs ≡ passes
    → ((k : ℕ) → k < passes → get_or xs k 0 ≡ allowance lines k) → xs ≡ allowances lines passes
allowances-by xs lines passes count each = fill_by_all (allowance lines) xs passes 0 count each

pub allowances-count : (lines : List ScriptLine) (passes : ℕ) → length (allowances lines passes) ≡ passes
allowances-count lines passes = length-map-range_with_len (allowance lines) 0 passes

pub allowances-at : (lines : List ScriptLine) (passes k d : ℕ) → k < passes → get_or (allowances lines passes) k d ≡ allowance lines k
allowances-at lines passes k d within = get_or-map-range_with_len (allowance lines) 0 passes k k d within (omega arith)

-- without lines nobody is allowed anything
pub allowances-none : (passes : ℕ) → replicate passes 0 ≡ allowances [] passes
allowances-none passes = allowances-by (replicate passes 0) [] passes (length-replicate passes 0) (λ k within. get_or-replicate passes k 0 0 within)

same-true : (m n : ℕ) → (m == n) ≡ true → n ≡ m
same-true m n h = search (rules, tests)

same-false : (m n : ℕ) → (m == n) ≡ false → n ≢ m
same-false m n h = search (rules, tests)

-- each number after a further line
allowance-more : (lines : List ScriptLine) (passes i : ℕ) (line d : ScriptLine) (k : ℕ) → i < length lines → line ≡ get_or lines i d
    → line.pass < passes → k < passes
    → get_or (slice_set (allowances (take i lines) passes) line.pass (get_or (allowances (take i lines) passes) line.pass 0 + amount line.order)) k 0 ≡ allowance (take (i + 1) lines) k
allowance-more lines passes i line d k within is there below =
    let before = allowances (take i lines) passes in
    let count : length before ≡ passes = allowances-count (take i lines) passes in
    let more : allowance (take (i + 1) lines) k ≡ allowance (take i lines) k + share k line = rw is (sum_by_more (share k) lines i d within) in
    elim (cases_Bool (line.pass == k)) [
      | inl own ↦
          let same : k ≡ line.pass = same-true line.pass k own in
          let set_at = get_or-set_at before line.pass k (get_or before line.pass 0 + amount line.order) 0 same (omega arith) in
          let was = allowances-at (take i lines) passes line.pass 0 there in
          let all : allowance (take (i + 1) lines) k ≡ allowance (take i lines) k + amount line.order = rw own at more in
          set_at ∙ rw (was, ← same) (sym all)
      | inr other ↦
          let differs = same-false line.pass k other in
          let kept = get_or-set_other before line.pass k (get_or before line.pass 0 + amount line.order) 0 differs in
          let was = allowances-at (take i lines) passes k 0 below in
          let all : allowance (take (i + 1) lines) k ≡ allowance (take i lines) k + 0 = rw other at more in
          kept ∙ was ∙ sym (all ∙ omega arith)
    ]

-- a further line adds its amount to its pass
pub allowances-more : (lines : List ScriptLine) (passes i : ℕ) (line d : ScriptLine) (sums : List ℕ) → i < length lines → line ≡ get_or lines i d
    → line.pass < passes → sums ≡ allowances (take i lines) passes
    → slice_set sums line.pass (get_or sums line.pass 0 + amount line.order) ≡ allowances (take (i + 1) lines) passes
allowances-more lines passes i line d sums within is there same =
    rw same (allowances-by _ (take (i + 1) lines) passes (length-set _ _ _ ∙ allowances-count (take i lines) passes) (λ k below. allowance-more lines passes i line d k within is there below))

-- what a pass is allowed with a further line is no more than all amounts
pub allowance-bound : (lines : List ScriptLine) (i pass : ℕ) (d : ScriptLine) → i < length lines
    → allowance (take i lines) pass + amount (get_or lines i d).order ≤ total_amount lines
allowance-bound lines i pass d within = sum_by_more_le_part (share pass) (λ line. amount line.order) lines i d within (share-le pass)

-- the same, by the number that was read and the amount that was added
pub allowances-add : (lines : List ScriptLine) (passes i : ℕ) (line d : ScriptLine) (sums : List ℕ) (was added : ℕ) → i < length lines → line ≡ get_or lines i d
    → line.pass < passes → sums ≡ allowances (take i lines) passes → was ≡ get_or sums line.pass was → added ≡ amount line.order
    → slice_set sums line.pass (was + added) ≡ allowances (take (i + 1) lines) passes
allowances-add lines passes i line d sums was added within is there same read adds =
    let count : length sums ≡ passes = rw same (allowances-count (take i lines) passes) in
    let number : was ≡ get_or sums line.pass 0 = read ∙ get_or_default_zero sums line.pass was (omega arith) in
    rw (number, adds) (allowances-more lines passes i line d sums within is there same)

-- no number passes all amounts
pub allowances-fit : (lines : List ScriptLine) (passes i : ℕ) (line d : ScriptLine) (sums : List ℕ) (was added : ℕ) → i < length lines → line ≡ get_or lines i d
    → line.pass < passes → sums ≡ allowances (take i lines) passes → was ≡ get_or sums line.pass was → added ≡ amount line.order
    → was + added ≤ total_amount lines
allowances-fit lines passes i line d sums was added within is there same read adds =
    let count : length sums ≡ passes = rw same (allowances-count (take i lines) passes) in
    let number : was ≡ allowance (take i lines) line.pass = read ∙ get_or_default_zero sums line.pass was (omega arith) ∙ rw same (allowances-at (take i lines) passes line.pass 0 there) in
    rw (number, adds, is) (allowance-bound lines i (get_or lines i d).pass d within)

-- the pass of a line of a sound script is there, and has its number
pub pass-there : (items lines : List ScriptLine) (passes i : ℕ) (d : ScriptLine) → items ≡ lines → All (HasPasses passes) lines → i < length items
    → (get_or items i d).pass < passes
pass-there items lines passes i d same each within = rw same (each i d (rw same at within)).0

pub place-there : (items lines : List ScriptLine) (passes i : ℕ) (d : ScriptLine) (sums : List ℕ) → items ≡ lines → All (HasPasses passes) lines → i < length items
    → sums ≡ allowances (take i items) passes → (get_or items i d).pass < length sums
place-there items lines passes i d sums same each within so_far =
    let count : length sums ≡ passes = rw so_far (allowances-count (take i items) passes) in
    rw count (pass-there items lines passes i d same each within)

-- a sum over passes, one more of them
sum-range : (f : ℕ → ℕ) (n : ℕ) → sum (map f (range_with_len 0 (suc n))) ≡ sum (map f (range_with_len 0 n)) + f n
sum-range f n =
    let more = sum_by-map-range_with_len_more (λ (x : ℕ). x) f 0 n n (omega arith) in
    let e : n + 1 ≡ suc n = omega arith in
    rw e at more

regroup : (a b c d : ℕ) → a + c + (b + d) ≡ a + b + (c + d)
regroup a b c d = omega arith

sum-nothing : (passes : ℕ) → sum (allowances [] passes) ≡ 0
sum-nothing passes = let none = sum_by-replicate (λ (x : ℕ). x) passes 0 in rw (← allowances-none passes) (none ∙ omega arith)

add-same : (a b c d : ℕ) → a ≡ b → c ≡ d → a + c ≡ b + d
add-same a b c d p q = cc

sum-parts : (f g h : ℕ → ℕ) → ((p : ℕ) → h p ≡ f p + g p) → (n : ℕ)
    → sum (map h (range_with_len 0 n)) ≡ sum (map f (range_with_len 0 n)) + sum (map g (range_with_len 0 n))
sum-parts f g h parts zero = refl
sum-parts f g h parts (suc n) =
    let before = add-same _ _ _ _ (sum-parts f g h parts n) (parts n) in
    sum-range h n ∙ before ∙ regroup _ _ _ _ ∙ sym (add-same _ _ _ _ (sum-range f n) (sum-range g n))

-- the shares of one line
share-own : (pass : ℕ) (line : ScriptLine) → line.pass ≡ pass → share pass line ≡ amount line.order
share-own pass line own = let e : (line.pass == pass) ≡ true = eq-eqb line.pass pass own in rw e refl

share-other : (pass : ℕ) (line : ScriptLine) → line.pass ≢ pass → share pass line ≡ 0
share-other pass line other = let e : (line.pass == pass) ≡ false = ne_eqb line.pass pass other in rw e refl

shares-none : (line : ScriptLine) (n : ℕ) → n ≤ line.pass → sum (map (λ pass. share pass line) (range_with_len 0 n)) ≡ 0
shares-none line zero above = refl
shares-none line (suc n) above =
    sum-range (λ (pass : ℕ). share pass line) n ∙ add-same _ 0 _ 0 (shares-none line n (omega arith)) (share-other n line (λ (e : line.pass ≡ n). omega arith))

shares-one : (line : ScriptLine) (n : ℕ) → line.pass < n → sum (map (λ pass. share pass line) (range_with_len 0 n)) ≡ amount line.order
shares-one line zero there = absurd (omega arith)
shares-one line (suc n) there =
    sum-range (λ (pass : ℕ). share pass line) n ∙ elim (cases_Bool (line.pass == n)) [
      | inl own ↦
          let same : line.pass ≡ n = sym (same-true line.pass n own) in
          add-same _ 0 _ (amount line.order) (shares-none line n (omega arith)) (share-own n line same) ∙ omega arith
      | inr other ↦
          let differs : line.pass ≢ n = λ (e : line.pass ≡ n). same-false line.pass n other (sym e) in
          add-same _ (amount line.order) _ 0 (shares-one line n (omega arith)) (share-other n line differs) ∙ omega arith
    ]

-- what the passes are allowed comes to all amounts
allowances-add_up : (lines : List ScriptLine) (passes : ℕ) → AllByRecursion (HasPasses passes) lines → sum (allowances lines passes) ≡ total_amount lines
allowances-add_up [] passes each = sum-nothing passes
allowances-add_up (line ∷ lines) passes each =
    sum-parts (λ pass. share pass line) (allowance lines) (allowance (line ∷ lines)) (λ pass. sum_by-cons (share pass) line lines) passes
    ∙ add-same _ _ _ _ (shares-one line passes each.0.0) (allowances-add_up lines passes each.1)
    ∙ sym (sum_by-cons (λ (l : ScriptLine). amount l.order) line lines)

pub add_up : AllowancesAddUp
add_up lines passes each = allowances-add_up lines passes (recursion_from_All (HasPasses passes) lines each)

pub are_allowed : LinesAreAllowed
are_allowed lines i d within =
    let line = get_or lines i d in
    let all = sum_by_more_le (share line.pass) lines i d within in
    rw (share-own line.pass line refl) at all
