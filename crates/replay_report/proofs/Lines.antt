-- Texts that grow by one line after the other, and lists side by side.
use Rattle.std.proofs.Common.{◌≡◌, ℕ, zero, suc, ◌+◌, ◌<◌, ◌≤◌, List, [], ◌∷◌, ◌++◌, length, get_or, take, drop, refl, sym, ap, ◌∙◌, arith, add-one, append-nil, append_assoc, drop-cons}
use Rattle.std.proofs.lemmas.List.{drop_all}
use Rattle.std.proofs.lemmas.Slice.Zip.{get_or-zip}
use Rattle.std.specs.List.{flat_map, zip}

-- the text of what is left begins with the line of the next
flat_map-drop : {X : Type 0} (f : X → List ℕ) (xs : List X) (i : ℕ) (d : X) → i < length xs → flat_map f (drop i xs) ≡ f (get_or xs i d) ++ flat_map f (drop (i + 1) xs)
flat_map-drop f xs i d within = rw (add-one, drop-cons xs i d) refl

-- a text that has one more line
line-more : {X : Type 0} (f : X → List ℕ) (xs : List X) (i : ℕ) (d : X) (text longer whole : List ℕ) → i < length xs → longer ≡ text ++ f (get_or xs i d)
    → text ++ flat_map f (drop i xs) ≡ whole → longer ++ flat_map f (drop (i + 1) xs) ≡ whole
line-more f xs i d text longer whole within grown known =
    rw (grown, append_assoc) (ap (λ line. text ++ line) (sym (flat_map-drop f xs i d within)) ∙ known)

-- .. and one that has all
lines-end : {X : Type 0} (f : X → List ℕ) (xs : List X) (i : ℕ) (text whole : List ℕ) → length xs ≤ i → text ++ flat_map f (drop i xs) ≡ whole → text ≡ whole
lines-end f xs i text whole past known =
    let none = drop_all i xs past in
    sym (append-nil text) ∙ rw none at known

-- beside nothing stands nothing
zip-nil : {X Y : Type 0} (xs : List X) (none : List Y) → none ≡ [] → [] ≡ zip xs none
zip-nil [] none same = refl
zip-nil (x ∷ xs) none same = rw same refl

pub drop-zip : {X Y : Type 0} (n : ℕ) (xs : List X) (ys : List Y) → drop n (zip xs ys) ≡ zip (drop n xs) (drop n ys)
drop-zip zero xs ys = refl
drop-zip (suc n) [] ys = refl
drop-zip (suc n) (x ∷ xs) [] = zip-nil (drop n xs) [] refl
drop-zip (suc n) (x ∷ xs) (y ∷ ys) = drop-zip n xs ys

pub take-zip : {X Y : Type 0} (n : ℕ) (xs : List X) (ys : List Y) → take n (zip xs ys) ≡ zip (take n xs) (take n ys)
take-zip zero xs ys = refl
take-zip (suc n) [] ys = refl
take-zip (suc n) (x ∷ xs) [] = refl
take-zip (suc n) (x ∷ xs) (y ∷ ys) = ap (λ rest. (x, y) ∷ rest) (take-zip n xs ys)

pub length-zip : {X Y : Type 0} (xs : List X) (ys : List Y) → length xs ≤ length ys → length (zip xs ys) ≡ length xs
length-zip [] ys few = refl
length-zip (x ∷ xs) [] few = absurd (omega arith)
length-zip (x ∷ xs) (y ∷ ys) few = ap suc (length-zip xs ys (omega arith))

-- .. of two lists side by side
pub pair-more : {X Y : Type 0} (f : X × Y → List ℕ) (xs : List X) (ys : List Y) (i : ℕ) (x : X) (y : Y) (text longer whole : List ℕ) → i < length xs → length xs ≤ length ys
    → longer ≡ text ++ f (get_or xs i x, get_or ys i y) → text ++ flat_map f (drop i (zip xs ys)) ≡ whole → longer ++ flat_map f (drop (i + 1) (zip xs ys)) ≡ whole
pair-more f xs ys i x y text longer whole within enough grown known =
    let count = length-zip xs ys enough in
    let here = get_or-zip xs ys i (x, y) within (omega arith) in
    line-more f (zip xs ys) i (x, y) text longer whole (omega arith) (grown ∙ ap (λ p. text ++ f p) (sym here)) known

pub pair-end : {X Y : Type 0} (f : X × Y → List ℕ) (xs : List X) (ys : List Y) (i : ℕ) (text whole : List ℕ) → length xs ≤ i → length xs ≤ length ys
    → text ++ flat_map f (drop i (zip xs ys)) ≡ whole → text ≡ whole
pair-end f xs ys i text whole past enough known =
    let count = length-zip xs ys enough in
    lines-end f (zip xs ys) i text whole (omega arith) known
