-- The items of a list, and a list with one item replaced.
use Rattle.std.proofs.Common.{◌≡◌, ◌≢◌, ◌⊎◌, inl, inr, ℕ, zero, suc, ◌+◌, ◌<◌, ◌≤◌, Bool, true, false, List, [], ◌∷◌, Some, None, cond, refl, length, set, ◌∙◌, ap, arith}
use Rattle.std.specs.Prelude.{slice_get}
use Rattle.std.specs.List.{range_with_len, find}
use Rattle.std.proofs.lemmas.Bool.{cases_eq}
use Rattle.std.proofs.lemmas.List.{get_or-set_same, get_or-set_other, length-set}
use Rattle.std.proofs.lemmas.Option.{slice_get-get_or, get_or_from_slice_get, slice_get_within}

-- the item is one of the list
abbrev pub Has : {A : Type 0} → List A → A → Type 0
Has [] x = ⊥
Has (y ∷ ys) x = (x ≡ y) ⊎ Has ys x

pub has_range : (a n k : ℕ) → a ≤ k → k < a + n → Has (range_with_len a n) k
has_range a zero k from to = absurd (omega arith)
has_range a (suc n) k from to = elim (cases_eq k a) [
  | inl here ↦ inl here
  | inr later ↦ inr (has_range (a + 1) n k (omega arith) (omega arith))
]

-- where no item is found, the test holds of none
pub none_found : (test : ℕ → Bool) (xs : List ℕ) (x : ℕ) → find test xs ≡ None → Has xs x → test x ≡ false
none_found test [] x none has = absurd has
none_found test (y ∷ ys) x none has = by (test y) refl none has (λ later more. none_found test ys x later more)
  where
    by : (b : Bool) → test y ≡ b → cond b (Some y) (find test ys) ≡ None → (x ≡ y) ⊎ Has ys x → (find test ys ≡ None → Has ys x → test x ≡ false) → test x ≡ false
    by true holds found has rest = absurd (cc)
    by false holds found (inl here) rest = ap test here ∙ holds
    by false holds found (inr later) rest = rest found later

-- what was written is read, and elsewhere what stood there
pub slice_get-set_same : {A : Type 0} (xs : List A) (i : ℕ) (x : A) → i < length xs → slice_get (set xs i x) i ≡ Some x
slice_get-set_same xs i x within = slice_get-get_or (set xs i x) i x (omega (arith, length-set xs i x)) ∙ ap Some (get_or-set_same xs i x x within)

pub slice_get-set_other : {A : Type 0} (xs : List A) (i j : ℕ) (x y : A) → j ≢ i → slice_get xs j ≡ Some y → slice_get (set xs i x) j ≡ Some y
slice_get-set_other xs i j x y other is =
    slice_get-get_or (set xs i x) j y (omega (arith, length-set xs i x, slice_get_within xs j y is)) ∙ ap Some (get_or-set_other xs i j x y other ∙ get_or_from_slice_get xs j y y is)
