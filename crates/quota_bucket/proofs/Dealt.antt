-- The desks of a bucket that opens.
use Rattle.std.proofs.Common.{◌≡◌, ◌⊎◌, ℕ, zero, suc, ◌-◌, List, [], ◌∷◌, ◌++◌, map, All, refl, sym, ap, ◌∙◌, subst, inl, inr}
use Rattle.std.proofs.lemmas.List.{append-nil}
use Rattle.std.proofs.lemmas.List.Elements.{All-nil, All-cons, All-head, All-tail}
use Rattle.std.specs.Prelude.{zip}
use Rattle.running.specs.Running.{numbers_from, upto}
use Rattle.fn_core.specs.State.{State, opened, history_in}
use Rattle.fn_table.specs.Seen.{TableView, PassView, IsWhole}
use Rattle.fn_table.specs.Seen as funnel
use Rattle.fn_table.proofs.Glances.{glances_run, glances_idle}
use Rattle.tick_table.specs.Seen.{SeatView}
use Rattle.tick_table.specs.Seen as ticks
use Rattle.quota_bucket.specs.Seen.{BucketView, DeskView}
use Rattle.quota_bucket.specs.Opened.{fresh_desk, fresh_desks, IsNew}
use Rattle.quota_bucket.specs.Places.{desk_of}

-- where there are no seats left, or no passes, all desks have been made
pub all_made : (all whole : List DeskView) (seats : List SeatView) (passes : List PassView) → all ++ map desk_of (zip seats passes) ≡ whole → (seats ≡ []) ⊎ (passes ≡ []) → all ≡ whole
all_made all whole seats passes so_far (inl none) = sym (append-nil all) ∙ ap (λ (xs : List SeatView). all ++ map desk_of (zip xs passes)) (sym none) ∙ so_far
all_made all whole seats passes so_far (inr none) = sym (append-nil all) ∙ ap (λ (xs : List DeskView). all ++ xs) (sym (no_passes seats)) ∙ ap (λ (xs : List PassView). all ++ map desk_of (zip seats xs)) (sym none) ∙ so_far
  where
    no_passes : (xs : List SeatView) → map desk_of (zip xs []) ≡ []
    no_passes [] = refl
    no_passes (x ∷ xs) = refl

-- the desks of seats and passes that are given by their numbers
desks_of : (b : BucketView) (numbers : List ℕ) → map desk_of (zip (map (ticks.fresh b.ticks) numbers) (map (funnel.fresh b.funnel) numbers)) ≡ map (fresh_desk b) numbers
desks_of b [] = refl
desks_of b (n ∷ numbers) = ap (λ (ds : List DeskView). fresh_desk b n ∷ ds) (desks_of b numbers)

pub are_fresh : (b : BucketView) (seats : List SeatView) (passes : List PassView) (desks : List DeskView) → b.funnel.start.shape.passes ≡ b.ticks.start.desks
    → seats ≡ ticks.fresh_seats b.ticks → passes ≡ funnel.fresh_passes b.funnel → desks ≡ map desk_of (zip seats passes) → desks ≡ fresh_desks b
are_fresh b seats passes desks count s p are =
    are ∙ (λ i. map desk_of (zip (s i) ((p ∙ ap (λ (n : ℕ). map (funnel.fresh b.funnel) (upto n)) count) i))) ∙ desks_of b (upto b.ticks.start.desks)

-- one of them
fresh_new : (b : BucketView) (number : ℕ) → IsWhole (funnel.fresh b.funnel number) → IsNew b (fresh_desk b number)
fresh_new b number whole =
    let glances : ℕ = b.funnel.start.shape.passes - 1 in
    record {
      together = record { pass = (refl, refl); seat = (refl, refl); number = refl; rests = glances_idle b.funnel.start number glances };
      whole = whole;
      no_call = ap (λ (s : State). history_in b.funnel.start s) (glances_run b.funnel.start (opened b.funnel.start) glances);
      no_entry = refl;
    }

new_from : (b : BucketView) (first count : ℕ) → All IsWhole (map (funnel.fresh b.funnel) (numbers_from first count)) → All (IsNew b) (map (fresh_desk b) (numbers_from first count))
new_from b first zero whole = All-nil (IsNew b)
new_from b first (suc count) whole =
    let rest : List PassView = map (funnel.fresh b.funnel) (numbers_from (suc first) count) in
    All-cons (IsNew b) (fresh_desk b first) (map (fresh_desk b) (numbers_from (suc first) count))
    (fresh_new b first (All-head IsWhole (funnel.fresh b.funnel first) rest whole)) (new_from b (suc first) count (All-tail IsWhole (funnel.fresh b.funnel first) rest whole))

-- .. and all
pub are_new : (b : BucketView) (passes : List PassView) (desks : List DeskView) → b.funnel.start.shape.passes ≡ b.ticks.start.desks → funnel.AreOpened b.funnel passes → desks ≡ fresh_desks b → All (IsNew b) desks
are_new b passes desks count opened fresh =
    let whole : All IsWhole (map (funnel.fresh b.funnel) (upto b.ticks.start.desks)) = subst (λ (n : ℕ). All IsWhole (map (funnel.fresh b.funnel) (upto n))) count (subst (All IsWhole) opened.fresh opened.idle) in
    subst (All (IsNew b)) (sym fresh) (new_from b 0 b.ticks.start.desks whole)
