-- What stands at an index of lists that are put together, of their beginnings and of their rests.
use Rattle.std.proofs.Common.{◌≡◌, ◌+◌, ◌<◌, ℕ, zero, suc, List, [], ◌∷◌, ◌++◌, length, take, drop, slice_get, sym, refl, ap, ◌∙◌, arith, take-append-drop}
use Rattle.std.proofs.lemmas.List.{take-take, drop-take}

pub get_first : {A : Type 0} (xs ys : List A) (k : ℕ) → k < length xs → slice_get (xs ++ ys) k ≡ slice_get xs k
get_first [] ys k below = absurd (omega arith)
get_first (x ∷ xs) ys zero below = refl
get_first (x ∷ xs) ys (suc k) below = get_first xs ys k (omega arith)

pub get_later : {A : Type 0} (xs ys : List A) (i k : ℕ) → length xs + i ≡ k → slice_get (xs ++ ys) k ≡ slice_get ys i
get_later [] ys i k is = let same : k ≡ i = omega arith in ap (slice_get ys) same
get_later (x ∷ xs) ys i zero is = absurd (omega arith)
get_later (x ∷ xs) ys i (suc k) is = get_later xs ys i k (omega arith)

pub get_taken : {A : Type 0} (n : ℕ) (xs : List A) (k : ℕ) → k < n → slice_get (take n xs) k ≡ slice_get xs k
get_taken zero xs k below = absurd (omega arith)
get_taken (suc n) [] k below = refl
get_taken (suc n) (x ∷ xs) zero below = refl
get_taken (suc n) (x ∷ xs) (suc k) below = get_taken n xs k (omega arith)

pub get_dropped : {A : Type 0} (n : ℕ) (xs : List A) (i k : ℕ) → n + i ≡ k → slice_get (drop n xs) i ≡ slice_get xs k
get_dropped zero xs i k is = let same : i ≡ k = omega arith in ap (slice_get xs) same
get_dropped (suc n) [] i k is = refl
get_dropped (suc n) (x ∷ xs) i zero is = absurd (omega arith)
get_dropped (suc n) (x ∷ xs) i (suc k) is = get_dropped n xs i k (omega arith)

pub take_later : {A : Type 0} (xs ys : List A) (i k : ℕ) → length xs + i ≡ k → take k (xs ++ ys) ≡ xs ++ take i ys
take_later [] ys i k is = let same : k ≡ i = omega arith in ap (λ n. take n ys) same
take_later (x ∷ xs) ys i zero is = absurd (omega arith)
take_later (x ∷ xs) ys i (suc k) is = ap (λ zs. x ∷ zs) (take_later xs ys i k (omega arith))

-- so many, and so many of the rest
pub take_more : {A : Type 0} (n m : ℕ) (xs : List A) → take n xs ++ take m (drop n xs) ≡ take (n + m) xs
take_more n m xs =
    ap (λ ys. ys ++ take m (drop n xs)) (sym (take-take n (n + m) xs (omega arith)))
    ∙ ap (λ ys. take n (take (n + m) xs) ++ ys) (sym (drop-take n m xs)) ∙ take-append-drop n (take (n + m) xs)
