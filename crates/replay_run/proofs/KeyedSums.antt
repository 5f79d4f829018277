-- Sums over a list whose elements have a key.
use Rattle.std.proofs.Common.{◌≡◌, ◌+◌, ◌<◌, ◌≤◌, ◌==◌, ℕ, zero, suc, Bool, List, [], ◌∷◌, length, take, get_or, true, false, cond, nat_lt, refl, sym, ap, ◌∙◌, subst, arith, eq-eqb, add-one}
use Rattle.std.proofs.lemmas.Bool.Decides.{nat_tests}
use Rattle.std.proofs.lemmas.List.Sums.{sum_by-cons, sum_by_more}
use Rattle.std.specs.List.{filter, sum_by, sum}

-- an element that is kept where a test holds
sum_if : {A : Type 0} (f : A → ℕ) (b : Bool) (x : A) (xs : List A) → sum_by f (cond b (x ∷ xs) xs) ≡ cond b (f x) 0 + sum_by f xs
sum_if f true x xs = sum_by-cons f x xs
sum_if f false x xs = omega arith

step : (k n v : ℕ) → cond (nat_lt k (suc n)) v 0 ≡ cond (nat_lt k n) v 0 + cond (k == n) v 0
step k n v = grind (arith, nat_tests)

lower : (k : ℕ) → nat_lt k 0 ≡ false
lower k = grind (arith, nat_tests)

module _ {A : Type 0} (f : A → ℕ) (key : A → ℕ) where
  -- those with a smaller key, and those with this one
  abbrev pub below : ℕ → List A → List A
  below n xs = filter (λ x. nat_lt (key x) n) xs

  abbrev pub at : ℕ → List A → List A
  at n xs = filter (λ x. key x == n) xs

  below_more : (n : ℕ) (xs : List A) → sum_by f (below (suc n) xs) ≡ sum_by f (below n xs) + sum_by f (at n xs)
  below_more n [] = refl
  below_more n (x ∷ xs) =
      omega (arith, sum_if f (nat_lt (key x) (suc n)) x (below (suc n) xs), sum_if f (nat_lt (key x) n) x (below n xs), sum_if f (key x == n) x (at n xs), step (key x) n (f x), below_more n xs)

  below_none : (xs : List A) → sum_by f (below 0 xs) ≡ 0
  below_none [] = refl
  below_none (x ∷ xs) = ap (λ b. sum_by f (cond b (x ∷ below 0 xs) (below 0 xs))) (lower (key x)) ∙ below_none xs

  -- no key reaches n
  abbrev pub NoneFrom : ℕ → List A → Type 0
  NoneFrom n xs = (k : ℕ) → n ≤ k → at k xs ≡ []

  none_rest : (n : ℕ) (x : A) (xs : List A) → NoneFrom n (x ∷ xs) → (key x < n) × NoneFrom n xs
  none_rest n x xs none = by (nat_lt (key x) n) refl
    where
      by : (b : Bool) → nat_lt (key x) n ≡ b → (key x < n) × NoneFrom n xs
      by true is =
          let less : key x < n = grind (arith, nat_tests, is) in
          (less, λ k above. let other : (key x == k) ≡ false = grind (arith, nat_tests, less, above) in ap (λ b. cond b (x ∷ at k xs) (at k xs)) (sym other) ∙ none k above)
      by false is =
          let more : n ≤ key x = grind (arith, nat_tests, is) in
          let first : x ∷ at (key x) xs ≡ [] = ap (λ b. cond b (x ∷ at (key x) xs) (at (key x) xs)) (sym (eq-eqb (key x) (key x) refl)) ∙ none (key x) more in
          absurd (cc)

  pub all_below : (n : ℕ) (xs : List A) → NoneFrom n xs → below n xs ≡ xs
  all_below n [] none = refl
  all_below n (x ∷ xs) none =
      let parts = none_rest n x xs none in
      let test : nat_lt (key x) n ≡ true = let less : key x < n = parts.0 in grind (arith, nat_tests, less) in
      ap (λ b. cond b (x ∷ below n xs) (below n xs)) test ∙ ap (λ ys. x ∷ ys) (all_below n xs parts.1)

  -- so many numbers, each of which is the sum of its key, are together the sum of all
  pub sums_below : (sums : List ℕ) (xs : List A) (n : ℕ) → n ≤ length sums → ((k : ℕ) → k < length sums → get_or sums k 0 ≡ sum_by f (at k xs)) → sum (take n sums) ≡ sum_by f (below n xs)
  sums_below sums xs zero within each = sym (below_none xs)
  sums_below sums xs (suc n) within each =
      let more : sum (take (suc n) sums) ≡ sum (take n sums) + get_or sums n 0 = let e = sum_by_more (λ (m : ℕ). m) sums n 0 (omega arith) in subst (λ (m : ℕ). sum (take m sums) ≡ sum (take n sums) + get_or sums n 0) (add-one n) e in
      omega (arith, more, each n (omega arith), sums_below sums xs n (omega arith) each, below_more n xs)

-- two lists with the same sum for each key
module _ {A B : Type 0} (f : A → ℕ) (key : A → ℕ) (g : B → ℕ) (other : B → ℕ) (xs : List A) (ys : List B) (same : (k : ℕ) → sum_by f (at f key k xs) ≡ sum_by g (at g other k ys)) where
  same_below : (n : ℕ) → sum_by f (below f key n xs) ≡ sum_by g (below g other n ys)
  same_below zero = below_none f key xs ∙ sym (below_none g other ys)
  same_below (suc n) = omega (arith, below_more f key n xs, below_more g other n ys, same n, same_below n)

  pub same_sums : (n : ℕ) → NoneFrom f key n xs → NoneFrom g other n ys → sum_by f xs ≡ sum_by g ys
  same_sums n none nobody = ap (sum_by f) (sym (all_below f key n xs none)) ∙ same_below n ∙ ap (sum_by g) (all_below g other n ys nobody)
