-- Lists of seats: as numbers are dealt to them, and one by one.
use Rattle.std.proofs.Common.{map, ◌≡◌, ℕ, zero, suc, ◌+◌, ◌-◌, ◌<◌, List, [], ◌∷◌, ◌++◌, All, sym, ap, ◌∙◌, subst, arith, length, refl}
use Rattle.std.specs.Prelude.{Some, slice_get}
use Rattle.std.proofs.lemmas.List.{map-append}
use Rattle.std.proofs.lemmas.List.Elements.{All-head, All-same}
use Rattle.running.specs.declared.Part.{Part}
use Rattle.running.specs.Running.{Each, numbers_from}
use Rattle.running.proofs.Numbers.{numbers_first, numbers_more}

-- the numbers from k up to a limit are k and those behind it
pub next_numbers : (k limit : ℕ) → k < limit → numbers_from k (limit - k) ≡ k ∷ numbers_from (k + 1) (limit - (k + 1))
next_numbers k limit below =
    numbers_first k (limit - k) (omega arith)
    ∙ ap (λ (z : ℕ × ℕ). k ∷ numbers_from z.0 z.1) (λ i. (let e : suc k ≡ k + 1 = omega arith in e i, let e : limit - k - 1 ≡ limit - (k + 1) = omega arith in e i))

-- there are as many numbers as are counted
pub length_numbers : (k count : ℕ) → length (numbers_from k count) ≡ count
length_numbers k zero = refl
length_numbers k (suc count) = ap suc (length_numbers (suc k) count)

module _ {A : Type 0} where
  -- one seat more, behind those of the numbers from 1 on
  pub one_more : (seat : ℕ → A) (n : ℕ) → 0 < n → map seat (numbers_from 1 (n - 1)) ++ seat n ∷ [] ≡ map seat (numbers_from 1 (n + 1 - 1))
  one_more seat n some_there =
      let at : 1 + (n - 1) ≡ n = omega arith in
      let count : suc (n - 1) ≡ n + 1 - 1 = omega arith in
      ap (λ k. map seat (numbers_from 1 (n - 1)) ++ seat k ∷ []) (sym at) ∙ (sym (map-append seat (numbers_from 1 (n - 1)) ((1 + (n - 1)) ∷ []))
      ∙ (ap (map seat) (sym (numbers_more 1 (n - 1))) ∙ ap (λ k. map seat (numbers_from 1 k)) count))

  -- what holds of all holds of the first
  pub all_head : (P : A → Type 0) (xs ys : List A) (x : A) → All P xs → xs ≡ x ∷ ys → P x
  all_head P xs ys x holds is = All-head P x ys (All-same P (x ∷ ys) xs (sym is) holds)

  -- what holds of the part of each seat holds of that of the k-th
  pub each_at : {E : Type 0} (P : Part E → Type 0) (part_of : A → Part E) (seats : List A) (k : ℕ) (seat : A) → Each P (map part_of seats) → slice_get seats k ≡ Some seat → P (part_of seat)
  each_at P part_of [] k seat holds there = absurd (cc)
  each_at P part_of (first ∷ seats) zero seat holds there = let is : first ≡ seat = cc in subst (λ s. P (part_of s)) is holds.0
  each_at P part_of (first ∷ seats) (suc k) seat holds there = each_at P part_of seats k seat holds.1 there
