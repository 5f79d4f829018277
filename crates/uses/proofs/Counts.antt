-- What one more call adds to what a pass has done.
use Rattle.std.proofs.Common.{◌≡◌, ℕ, ◌+◌, List, [], ◌∷◌, ◌++◌, min, refl, sym, ◌∙◌, ap, subst, arith}
use Rattle.std.proofs.lemmas.List.Sums.{sum_by-cons, sum_by-append}
use Rattle.fn_model.specs.declared.Kind.{Kind}
use Rattle.fn_model.specs.declared.Kind.TheVariants.{Add, Sub}
use Rattle.fn_table.specs.Seen.{TableView, PassView, IsOf}
use Rattle.fn_table.specs.Claims.{next_of, Made}
use Rattle.tq_queue.specs.Answers.{Answered, raised, lowered, raised_by, lowered_by}
use Rattle.tq_queue.specs.Kept.{own_answers}
use Rattle.tq_queue.proofs.Laws.{calls_are_answered}
use Rattle.uses.specs.Books.{IsNew}
use Rattle.uses.specs.Counts.{Follows, HasAdded, HasDrawn, HasReturned, Settles}

-- the pass that has made a call is the same one
pub still : (t : TableView) (p : PassView) (kind : Kind) (amount reply : ℕ) (q : PassView) → IsOf t p → Made p kind amount reply q → Follows t p q
still t p kind amount reply q of made = record { together = (made.same.0 ∙ of.0, made.same.2 ∙ of.1); named = made.same.1; rests = made.rests }

pub then_still : (t : TableView) (p r q : PassView) → Follows t p r → Follows t r q → Follows t p q
then_still t p r q first second = record { together = second.together; named = second.named ∙ first.named; rests = second.rests }

-- a new pass has added nothing
pub added_none : (t : TableView) (n : ℕ) (p : PassView) → IsNew t n p → HasAdded t p 0 p
added_none t n p new = record { follows = record { together = new.together; named = refl; rests = new.rests }; up = ap raised new.none; down = ap lowered new.none }

-- one more addition of 1
pub added_one : (t : TableView) (start p q : PassView) (n reply : ℕ) → HasAdded t start n p → Made p Add 1 reply q → HasAdded t start (n + 1) q
added_one t start p q n reply so_far made =
    let last : Answered = record { call = next_of p Add 1; met = reply } in
    let is : own_answers q ≡ own_answers p ++ last ∷ [] = calls_are_answered p Add 1 reply q made in
    let up : ℕ = raised (own_answers p) in
    record {
      follows = then_still t start p q so_far.follows (still t p Add 1 reply q so_far.follows.together made);
      up = omega (arith, ap raised is, sum_by-append (λ (a : Answered). raised_by a.call.kind a.call.amount) (own_answers p) (last ∷ []), sum_by-cons (λ (a : Answered). raised_by a.call.kind a.call.amount) last [], so_far.up);
      down = omega (arith, ap lowered is, sum_by-append (λ (a : Answered). lowered_by a.call.kind a.call.amount a.met) (own_answers p) (last ∷ []), sum_by-cons (λ (a : Answered). lowered_by a.call.kind a.call.amount a.met) last [], so_far.down);
    }

-- a range is drawn
pub drawn : (t : TableView) (allowance size reply : ℕ) (p q : PassView) → IsNew t allowance p → Made p Add size reply q → HasDrawn t p size reply q
drawn t allowance size reply p q new made = record {
  follows = still t p Add size reply q new.together made;
  call = next_of p Add size;
  kind_is = refl;
  size_is = refl;
  one = calls_are_answered p Add size reply q made ∙ ap (λ (xs : List Answered). xs ++ record { call = next_of p Add size; met = reply } ∷ []) new.none;
}

-- nothing was there, so nothing is given back
pub returned_none : (t : TableView) (allowance amount there : ℕ) (p q : PassView) → IsNew t allowance p → Made p Sub amount there q → min amount there ≡ 0 → HasReturned t p q
returned_none t allowance amount there p q new made none =
    let last : Answered = record { call = next_of p Sub amount; met = there } in
    let is : own_answers q ≡ last ∷ [] = calls_are_answered p Sub amount there q made ∙ ap (λ (xs : List Answered). xs ++ last ∷ []) new.none in
    record { follows = still t p Sub amount there q new.together made; settled = subst (Settles 0) (sym is) (tt, omega (arith, none)) }

-- what was there is given back
pub returned : (t : TableView) (allowance amount had there reply : ℕ) (p r q : PassView) → IsNew t allowance p → Made p Sub amount there r → had ≡ min amount there → Made r Add had reply q → HasReturned t p q
returned t allowance amount had there reply p r q new took had_is gave =
    let first : Answered = record { call = next_of p Sub amount; met = there } in
    let second : Answered = record { call = next_of r Add had; met = reply } in
    let was : own_answers r ≡ first ∷ [] = calls_are_answered p Sub amount there r took ∙ ap (λ (xs : List Answered). xs ++ first ∷ []) new.none in
    let is : own_answers q ≡ first ∷ second ∷ [] = calls_are_answered r Add had reply q gave ∙ ap (λ (xs : List Answered). xs ++ second ∷ []) was in
    let same : Follows t p r = still t p Sub amount there r new.together took in
    record {
      follows = then_still t p r q same (still t r Add had reply q same.together gave);
      settled = subst (Settles 0) (sym is) (tt, (omega (arith, had_is), omega (arith, had_is)));
    }
