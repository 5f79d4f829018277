-- Texts that grow by one piece after the other.
use Rattle.std.proofs.Common.{◌≡◌, ℕ, ◌+◌, ◌<◌, ◌≤◌, List, ◌++◌, length, get_or, drop, refl, sym, ap, ◌∙◌, arith, add-one, zero-add, append-nil, append_assoc, drop-cons}
use Rattle.std.proofs.lemmas.List.{drop_all}
use Rattle.std.proofs.lemmas.List.FromFn.{get_or-enumerate_from, get_or-range_with_len, length-enumerate_from, length-range_with_len}
use Rattle.std.specs.List.{enumerate_from, flat_map, range_with_len}

-- the text of what is left begins with the piece of the next
flat_map-drop : {X : Type 0} (f : X → List ℕ) (xs : List X) (i : ℕ) (d : X) → i < length xs → flat_map f (drop i xs) ≡ f (get_or xs i d) ++ flat_map f (drop (i + 1) xs)
flat_map-drop f xs i d within = rw (add-one, drop-cons xs i d) refl

-- a text that has one more piece
piece-more : {X : Type 0} (f : X → List ℕ) (xs : List X) (i : ℕ) (d : X) (text longer whole : List ℕ) → i < length xs → longer ≡ text ++ f (get_or xs i d)
    → text ++ flat_map f (drop i xs) ≡ whole → longer ++ flat_map f (drop (i + 1) xs) ≡ whole
piece-more f xs i d text longer whole within grown known =
    rw (grown, append_assoc) (ap (λ piece. text ++ piece) (sym (flat_map-drop f xs i d within)) ∙ known)

-- .. and one that has all
pieces-end : {X : Type 0} (f : X → List ℕ) (xs : List X) (i : ℕ) (text whole : List ℕ) → length xs ≤ i → text ++ flat_map f (drop i xs) ≡ whole → text ≡ whole
pieces-end f xs i text whole past known =
    let none = drop_all i xs past in
    sym (append-nil text) ∙ rw none at known

-- the same of a list with the place of each
pub numbered-more : {X : Type 0} (f : ℕ × X → List ℕ) (xs : List X) (i : ℕ) (d : X) (text longer whole : List ℕ) → i < length xs → longer ≡ text ++ f (i, get_or xs i d)
    → text ++ flat_map f (drop i (enumerate_from 0 xs)) ≡ whole → longer ++ flat_map f (drop (i + 1) (enumerate_from 0 xs)) ≡ whole
numbered-more f xs i d text longer whole within grown known =
    let count = length-enumerate_from 0 xs in
    let here = get_or-enumerate_from 0 xs i (0, d) within in
    piece-more f (enumerate_from 0 xs) i (0, d) text longer whole (omega arith) (rw (here, zero-add) grown) known

pub numbered-end : {X : Type 0} (f : ℕ × X → List ℕ) (xs : List X) (i : ℕ) (text whole : List ℕ) → length xs ≤ i → text ++ flat_map f (drop i (enumerate_from 0 xs)) ≡ whole → text ≡ whole
numbered-end f xs i text whole past known =
    let count = length-enumerate_from 0 xs in
    pieces-end f (enumerate_from 0 xs) i text whole (omega arith) known

-- .. and of the numbers below one
pub below-more : (f : ℕ → List ℕ) (n i : ℕ) (text longer whole : List ℕ) → i < n → longer ≡ text ++ f i
    → text ++ flat_map f (drop i (range_with_len 0 n)) ≡ whole → longer ++ flat_map f (drop (i + 1) (range_with_len 0 n)) ≡ whole
below-more f n i text longer whole within grown known =
    let count = length-range_with_len 0 n in
    let here = get_or-range_with_len 0 n i 0 within in
    piece-more f (range_with_len 0 n) i 0 text longer whole (omega arith) (rw (here, zero-add) grown) known

pub below-end : (f : ℕ → List ℕ) (n i : ℕ) (text whole : List ℕ) → n ≤ i → text ++ flat_map f (drop i (range_with_len 0 n)) ≡ whole → text ≡ whole
below-end f n i text whole past known =
    let count = length-range_with_len 0 n in
    pieces-end f (range_with_len 0 n) i text whole (omega arith) known

-- a text after three more pieces
pub three-more : (old first second last a b d : List ℕ) → first ≡ old ++ a → second ≡ first ++ b → last ≡ second ++ d → last ≡ old ++ (a ++ (b ++ d))
three-more old first second last a b d one two three = three ∙ rw (two, one) (simp append_assoc)
