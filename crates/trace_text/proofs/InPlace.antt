-- Elements of a list that are changed one after the other, in their places.
use Rattle.std.proofs.Common.{◌≡◌, ℕ, zero, suc, ◌+◌, ◌<◌, List, [], ◌∷◌, ◌++◌, length, map, take, drop, get_or, set, refl, ap, arith, add-one}

more : {A : Type 0} (f : A → A) (xs : List A) (i : ℕ) (d : A) → i < length xs
    → set (map f (take i xs) ++ drop i xs) i (f (get_or (map f (take i xs) ++ drop i xs) i d)) ≡ map f (take (suc i) xs) ++ drop (suc i) xs
more f [] i d below = absurd (omega arith)
more f (x ∷ xs) zero d below = refl
more f (x ∷ xs) (suc i) d below = ap (λ rest. f x ∷ rest) (more f xs i d (omega arith))

-- one more element is changed
pub changed-more : {A : Type 0} (f : A → A) (xs now : List A) (i : ℕ) (d new : A) → i < length xs
    → now ≡ map f (take i xs) ++ drop i xs → new ≡ f (get_or now i d) → set now i new ≡ map f (take (i + 1) xs) ++ drop (i + 1) xs
changed-more f xs now i d new below was is = rw (is, was, add-one i) (more f xs i d below)
