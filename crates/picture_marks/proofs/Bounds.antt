-- The bounds of marks.
use Rattle.std.proofs.Common.{◌≡◌, ◌≢◌, ℕ, zero, suc, ◌≤◌, min, max, List, [], ◌∷◌, take, drop, map, refl, ap, ◌∙◌, subst, arith, inl, inr}
use Rattle.std.proofs.lemmas.List.Elements.{All-nil, All-cons}
use Rattle.std.proofs.lemmas.Bool.{cases_lt}
use Rattle.std.specs.Fork.{slice_chunk}
use Rattle.std.specs.Prelude.{◌⊎◌, ◌*◌, unwrap_or}
use Rattle.std.specs.List.{All, Any, fold, reduce}
use Rattle.picture_marks.specs.Laws.{Has, IsWithin}
use Rattle.picture_marks.specs.Marks.{greatest_of, high, least_of, low}
use Rattle.picture_marks.specs.declared.marks.Mark.{Mark}

-- one bound more
fold-min : (x y : ℕ) (more : List ℕ) → fold min (min x y) more ≡ min x (fold min y more)
fold-min x y [] = refl
fold-min x y (z ∷ more) = let turned : min (min x y) z ≡ min x (min y z) = omega arith in ap (λ n. fold min n more) turned ∙ fold-min x (min y z) more

fold-max : (x y : ℕ) (more : List ℕ) → fold max (max x y) more ≡ max x (fold max y more)
fold-max x y [] = refl
fold-max x y (z ∷ more) = let turned : max (max x y) z ≡ max x (max y z) = omega arith in ap (λ n. fold max n more) turned ∙ fold-max x (max y z) more

-- the bounds, as a chain of iterators finds them
pub least_is : (marks : List Mark) → unwrap_or (reduce min (map low marks)) 0 ≡ least_of marks
least_is [] = refl
least_is (mark ∷ []) = refl
least_is (mark ∷ next ∷ marks) = fold-min (low mark) (low next) (map low marks) ∙ ap (min (low mark)) (least_is (next ∷ marks))

pub greatest_is : (marks : List Mark) → unwrap_or (reduce max (map high marks)) 0 ≡ greatest_of marks
greatest_is [] = refl
greatest_is (mark ∷ []) = omega arith
greatest_is (mark ∷ next ∷ marks) = fold-max (high mark) (high next) (map high marks) ∙ ap (max (high mark)) (greatest_is (next ∷ marks))

-- what a part of the marks has, all have
pub greatest_of-take : (n : ℕ) (marks : List Mark) → greatest_of (take n marks) ≤ greatest_of marks
greatest_of-take zero marks = omega arith
greatest_of-take (suc n) [] = omega arith
greatest_of-take (suc n) (mark ∷ marks) = let rest = greatest_of-take n marks in omega arith

pub greatest_of-drop : (n : ℕ) (marks : List Mark) → greatest_of (drop n marks) ≤ greatest_of marks
greatest_of-drop zero marks = omega arith
greatest_of-drop (suc n) [] = omega arith
greatest_of-drop (suc n) (mark ∷ marks) = let rest = greatest_of-drop n marks in omega arith

-- the least isn't above the greatest
pub least-le-greatest : (marks : List Mark) → least_of marks ≤ greatest_of marks
least-le-greatest [] = omega arith
least-le-greatest (mark ∷ []) = omega arith
least-le-greatest (mark ∷ next ∷ marks) = let rest = least-le-greatest (next ∷ marks) in omega arith

-- no mark of some is outside their bounds
bounds_below : (least most : ℕ) (marks : List Mark) → least ≤ least_of marks → greatest_of marks ≤ most → All (IsWithin least most) marks
bounds_below least most [] under over = All-nil (IsWithin least most)
bounds_below least most (mark ∷ []) under over = All-cons (IsWithin least most) mark [] (omega arith, omega arith, omega arith, omega arith) (All-nil (IsWithin least most))
bounds_below least most (mark ∷ next ∷ marks) under over =
    All-cons (IsWithin least most) mark (next ∷ marks) (omega arith, omega arith, omega arith, omega arith) (bounds_below least most (next ∷ marks) (omega arith) (omega arith))

pub bounds-hold : (marks : List Mark) → All (IsWithin (least_of marks) (greatest_of marks)) marks
bounds-hold marks = bounds_below (least_of marks) (greatest_of marks) marks (omega arith) (omega arith)

-- a run of the marks has no greater number
pub greatest_of-chunk : (size : ℕ) (marks : List Mark) (number : ℕ) → greatest_of (slice_chunk marks size number) ≤ greatest_of marks
greatest_of-chunk size marks number = omega (arith, greatest_of-take size (drop (number * size) marks), greatest_of-drop (number * size) marks)

-- the lesser and the greater of two numbers are among them
lesser-is : (a b : ℕ) → (a ≡ min a b) ⊎ (b ≡ min a b)
lesser-is a b = elim (cases_lt a b) [ inl less ↦ inl (omega arith) | inr more ↦ inr (omega arith) ]

greater-is : (a b : ℕ) → (a ≡ max a b) ⊎ (b ≡ max a b)
greater-is a b = elim (cases_lt a b) [ inl less ↦ inr (omega arith) | inr more ↦ inl (omega arith) ]

-- a fact of the first mark, or of a later one
first-has : {P : Mark → Type 0} (mark : Mark) (marks : List Mark) → P mark → Any P (mark ∷ marks)
first-has mark marks holds = (0, mark, omega arith, refl, holds)

later-has : {P : Mark → Type 0} (mark : Mark) (marks : List Mark) → Any P marks → Any P (mark ∷ marks)
later-has mark marks (k, found, inside, is, holds) = (suc k, found, omega arith, is, holds)

least-is_met : (mark : Mark) (marks : List Mark) → Any (Has (least_of (mark ∷ marks))) (mark ∷ marks)
least-is_met mark [] = first-has {P = Has (low mark)} mark [] (lesser-is mark.before mark.after)
least-is_met mark (next ∷ marks) =
    let rest = least_of (next ∷ marks) in
    elim (lesser-is (low mark) rest) [
      | inl here ↦ subst (λ (n : ℕ). Any (Has n) (mark ∷ next ∷ marks)) here (first-has {P = Has (low mark)} mark (next ∷ marks) (lesser-is mark.before mark.after))
      | inr later ↦ subst (λ (n : ℕ). Any (Has n) (mark ∷ next ∷ marks)) later (later-has {P = Has rest} mark (next ∷ marks) (least-is_met next marks))
    ]

greatest-is_met : (mark : Mark) (marks : List Mark) → Any (Has (greatest_of (mark ∷ marks))) (mark ∷ marks)
greatest-is_met mark [] =
    let one : high mark ≡ greatest_of (mark ∷ []) = omega arith in
    subst (λ (n : ℕ). Any (Has n) (mark ∷ [])) one (first-has {P = Has (high mark)} mark [] (greater-is mark.before mark.after))
greatest-is_met mark (next ∷ marks) =
    let rest = greatest_of (next ∷ marks) in
    elim (greater-is (high mark) rest) [
      | inl here ↦ subst (λ (n : ℕ). Any (Has n) (mark ∷ next ∷ marks)) here (first-has {P = Has (high mark)} mark (next ∷ marks) (greater-is mark.before mark.after))
      | inr later ↦ subst (λ (n : ℕ). Any (Has n) (mark ∷ next ∷ marks)) later (later-has {P = Has rest} mark (next ∷ marks) (greatest-is_met next marks))
    ]

-- both bounds are numbers of marks
pub bounds-are_met : (marks : List Mark) → marks ≢ [] → Any (Has (least_of marks)) marks × Any (Has (greatest_of marks)) marks
bounds-are_met [] more = absurd (more refl)
bounds-are_met (mark ∷ marks) more = (least-is_met mark marks, greatest-is_met mark marks)
