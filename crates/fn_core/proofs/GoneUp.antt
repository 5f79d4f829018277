-- What has gone up are the published batches, and at most one more.
use Rattle.std.proofs.Common.{◌≡◌, ◌≢◌, ◌⊎◌, inl, inr, ℕ, zero, suc, ◌<◌, ◌≤◌, List, [], ◌∷◌, ◌++◌, Bool, true, false, cond, ◌&&◌, refl, sym, ◌∙◌, ap, subst, arith}
use Rattle.std.specs.Prelude.{if◌then◌else◌, ◌==◌}
use Rattle.std.proofs.lemmas.Bool.{cases_eq, eq-eqb, ne_eqb}
use Rattle.std.proofs.lemmas.List.{append-nil}
use Rattle.fn_model.specs.declared.Kind.{Kind}
use Rattle.fn_model.specs.declared.Kind.TheVariants as kinds
use Rattle.fn_model.specs.Arrivals.{Arrival, Own, Batch}
use Rattle.fn_model.specs.Calls.{same_kind}
use Rattle.fn_model.specs.Histories.{MainStep, OwnStep, BatchStep}
use Rattle.fn_model.specs.Order.{end_of_batches, batches_of}
use Rattle.fn_rows.specs.declared.Stage.{Stage}
use Rattle.fn_rows.specs.declared.Stage.TheVariants.{Late, Shut, Filled, Pointed, Over}
use Rattle.fn_rows.specs.Machine as local_step
use Rattle.fn_rows.specs.Trace as trace
use Rattle.fn_rows.specs.Trace.{Traced, traced, batch, head_noted, point_noted, publish_noted, peek_noted}
use Rattle.fn_rows.specs.Law.{end_of}
use Rattle.fn_rows.proofs.Invariant.{Leading, IsOurs}
use Rattle.fn_core.specs.declared.Purpose.TheVariants as purpose
use Rattle.fn_core.specs.declared.Move.{Move}
use Rattle.fn_core.specs.declared.Move.TheVariants.{Scan, See, Announce, Arrive, Look, Close, Apply, Head, Fill, Point, Publish, Peek, Leave, Load, Exchange, Direct, Glance}
use Rattle.fn_core.specs.declared.Event.{Event}
use Rattle.fn_core.specs.Tree.{parent, aggregator, member}
use Rattle.fn_core.specs.State.{Start, Position, Resting, Climbing, Deciding, State, opened, stage, goes_to, next_call, lo_of, hi_of}
use Rattle.fn_core.specs.Machine.{IsStart, Climbs, May, Legal, run, moves, makes, arrives, applies, applied_by, filled_by, peeked_by, loaded_by, exchanged_by, effect}
use Rattle.fn_core.specs.Positions.{IsClimbing}
use Rattle.fn_core.specs.Batches.{has_come, HasGone, Gone, IsUp}
use Rattle.fn_core.specs.GoneUp.{batches_from, gone_up, in_order, PublishedHaveGoneUp}
use Rattle.fn_core.proofs.Contiguous.{up_at, end_here}
use Rattle.fn_core.proofs.Places.{same_kind-refl, different_kind, same_place}
use Rattle.fn_core.proofs.Enters.{batches-push}
use Rattle.fn_core.proofs.Whole.{Whole, stages_of, FitsAt, climbing}
use Rattle.fn_core.proofs.Log.{opened_whole, moves_keep}
use Rattle.fn_core.proofs.Steps.{taken}
use Rattle.fn_core.proofs.Needs.{publish_alone}

-- a batch more among the arrivals
push_each : (t u : Bool) (b x : Arrival) (ys : List Arrival) → cond t (b ∷ cond u (ys ++ x ∷ []) ys) (cond u (ys ++ x ∷ []) ys) ≡ cond u (cond t (b ∷ ys) ys ++ x ∷ []) (cond t (b ∷ ys) ys)
push_each true true b x ys = refl
push_each true false b x ys = refl
push_each false true b x ys = refl
push_each false false b x ys = refl

from-push : (child : ℕ) (xs : List Arrival) (i lo hi : ℕ) → batches_from child (xs ++ Batch i lo hi ∷ []) ≡ cond (i == child) (batches_from child xs ++ Batch child lo hi ∷ []) (batches_from child xs)
from-push child [] i lo hi = refl
from-push child (Own call ∷ xs) i lo hi = from-push child xs i lo hi
from-push child (Batch j a b ∷ xs) i lo hi =
    ap (λ (zs : List Arrival). cond (j == child) (Batch child a b ∷ zs) zs) (from-push child xs i lo hi)
    ∙ push_each (j == child) (i == child) (Batch child a b) (Batch child lo hi) (batches_from child xs)

from_here : (child : ℕ) (xs : List Arrival) (i lo hi : ℕ) → i ≡ child → batches_from child (xs ++ Batch i lo hi ∷ []) ≡ batches_from child xs ++ Batch child lo hi ∷ []
from_here child xs i lo hi e = from-push child xs i lo hi ∙ ap (λ (t : Bool). cond t (batches_from child xs ++ Batch child lo hi ∷ []) (batches_from child xs)) (eq-eqb i child e)

from_there : (child : ℕ) (xs : List Arrival) (i lo hi : ℕ) → i ≢ child → batches_from child (xs ++ Batch i lo hi ∷ []) ≡ batches_from child xs
from_there child xs i lo hi ne = from-push child xs i lo hi ∙ ap (λ (t : Bool). cond t (batches_from child xs ++ Batch child lo hi ∷ []) (batches_from child xs)) (ne_eqb i child ne)

-- where the last of them ends
end_from : (child at : ℕ) (xs : List Arrival) → end_of_batches child at (batches_from child xs) ≡ end_of_batches child at xs
end_from child at [] = refl
end_from child at (Own call ∷ xs) = end_from child at xs
end_from child at (Batch i lo hi ∷ xs) = by (i == child) (λ from. end_from child from xs)
  where
    by : (t : Bool) → ((from : ℕ) → end_of_batches child from (batches_from child xs) ≡ end_of_batches child from xs) → end_of_batches child at (cond t (Batch child lo hi ∷ batches_from child xs) (batches_from child xs)) ≡ end_of_batches child (cond t hi at) xs
    by true rest = ap (λ (t : Bool). end_of_batches child (cond t hi at) (batches_from child xs)) (eq-eqb child child refl) ∙ rest hi
    by false rest = rest at

end_in_order : (index : ℕ) (batches : List trace.Batch) → end_of_batches index 0 (in_order index batches) ≡ end_of batches
end_in_order index [] = refl
end_in_order index (b ∷ older) = end_here index 0 (in_order index older) b.lo b.hi

end_up : (start : Start) (s : State) (kind : Kind) (below index end : ℕ) → IsUp start s kind (suc below) index end → end_of_batches index 0 (gone_up start s kind (suc below) index) ≡ end
end_up start s kind below index end is =
    let xs : List Arrival = batches_of kind s.steps in
    let ys : List Arrival = s.arrivals kind (suc (suc below)) (parent (suc below) index) in
    end_from index 0 (cond (suc below == start.shape.levels) xs ys)
    ∙ elim (cases_eq (suc below) start.shape.levels) [
      | inl top ↦ ap (λ (t : Bool). end_of_batches index 0 (cond t xs ys)) (eq-eqb (suc below) start.shape.levels top) ∙ is.0 top
      | inr not ↦ ap (λ (t : Bool). end_of_batches index 0 (cond t xs ys)) (ne_eqb (suc below) start.shape.levels not) ∙ is.1 not
    ]

-- the published batches after a step
abbrev AddsTo : Traced → local_step.Step → Type 0
AddsTo t step = ((traced t step).published ≡ t.published)
    ⊎ ((m at hi b r : ℕ) × (step ≡ local_step.Publish m) × (t.stage m ≡ Pointed at hi b r) × ((traced t step).published ≡ batch t.state at hi b r ∷ t.published))

head_adds : (t : Traced) (m : ℕ) (g : Stage) → (head_noted t.state t.books m g).published ≡ t.published
head_adds t m (Late at) = refl
head_adds t m _ = refl

point_adds : (t : Traced) (g : Stage) → (point_noted t.state t.books g).published ≡ t.published
point_adds t (Filled at hi b r) = refl
point_adds t _ = refl

peek_adds : (t : Traced) (m : ℕ) (g : Stage) → (peek_noted t.state t.books m g).published ≡ t.published
peek_adds t m (Over at r) = refl
peek_adds t m _ = refl

publish_adds : (t : Traced) (m : ℕ) (g : Stage) → t.stage m ≡ g → ((publish_noted t.state t.books g).published ≡ t.published)
    ⊎ ((q at hi b r : ℕ) × (local_step.Publish m ≡ local_step.Publish q) × (t.stage q ≡ Pointed at hi b r) × ((publish_noted t.state t.books g).published ≡ batch t.state at hi b r ∷ t.published))
publish_adds t m (Pointed at hi b r) is = inr (m, at, hi, b, r, refl, is, refl)
publish_adds t m _ is = inl refl

step_adds : (t : Traced) (step : local_step.Step) → AddsTo t step
step_adds t (local_step.Scan m q) = inl refl
step_adds t (local_step.See m) = inl refl
step_adds t (local_step.Announce m) = inl refl
step_adds t (local_step.Arrive m weight) = inl refl
step_adds t (local_step.Look m) = inl refl
step_adds t (local_step.Close m) = inl refl
step_adds t (local_step.Hand_base m b) = inl refl
step_adds t (local_step.Head m) = inl (head_adds t m (t.stage m))
step_adds t (local_step.Fill m r field word) = inl refl
step_adds t (local_step.Point m) = inl (point_adds t (t.stage m))
step_adds t (local_step.Publish m) = publish_adds t m (t.stage m) refl
step_adds t (local_step.Peek m) = inl (peek_adds t m (t.stage m))
step_adds t (local_step.Leave m) = inl refl

-- the batch of a pass that has closed it and hasn't brought it up begins at `done`, where the last one that has gone up ends
abbrev IsReady : Start → State → Stage → Kind → ℕ → ℕ → Type 0
IsReady start s g kind below index =
    let here = s.rows kind (suc below) index in
    (lo_of g ≡ here.done) × (here.done < hi_of g) × IsUp start s kind (suc below) index here.done

ready : (start : Start) → IsStart start → (s : State) → Whole start s → (p : ℕ) (kind : Kind) (below at hi : ℕ) → stage start s kind (suc below) p ≡ Shut at hi → has_come (stage start s kind (suc (suc below)) p) ≡ false → IsReady start s (stage start s kind (suc below) p) kind below (aggregator start.shape p (suc below))
ready start ok s w p kind below at hi shut low =
    let index : ℕ = aggregator start.shape p (suc below) in
    let m : ℕ = member start.shape (suc below) p in
    let t : Traced = s.rows kind (suc below) index in
    let closed : Leading t t.total (IsOurs start.shape.rows t m) (Shut at hi) = subst (Leading t t.total (IsOurs start.shape.rows t m)) shut ((w.good.inv kind (suc below) index).leading m) in
    let from : at ≡ t.done = closed.0 in
    let to : at < hi = closed.1 in
    let end : hi_of (stage start s kind (suc below) p) ≡ hi = ap hi_of shut in
    (ap lo_of shut ∙ from, omega (arith, from, to, end), subst (IsUp start s kind (suc below) index) from (up_at start ok.shape s w.good.inv w.contiguous p kind below at hi shut low))

module _ (start : Start) (kind : Kind) (below index : ℕ) where
  abbrev here : State → Traced
  here s = s.rows kind (suc below) index

  abbrev up : State → List Arrival
  up s = gone_up start s kind (suc below) index

  -- the published batches and one more
  abbrev one_more : State → ℕ → List Arrival
  one_more s hi = in_order index (here s).published ++ Batch index (here s).done hi ∷ []

  abbrev AreUp : State → Type 0
  AreUp s = (up s ≡ in_order index (here s).published) ⊎ ((hi : ℕ) × ((here s).done < hi) × (up s ≡ one_more s hi))

  -- nothing goes up, or one batch does
  abbrev Raises : State → State → Type 0
  Raises s next = (up next ≡ up s)
      ⊎ ((hi : ℕ) × ((here s).done < hi) × IsUp start s kind (suc below) index (here s).done × (up next ≡ up s ++ Batch index (here s).done hi ∷ []))

  module _ (ok : IsStart start) (s : State) (w : Whole start s) (p : ℕ) where
    abbrev main_batches : List Arrival
    main_batches = batches_of kind s.steps

    abbrev above : List Arrival
    above = s.arrivals kind (suc (suc below)) (parent (suc below) index)

    abbrev at_top : Bool
    at_top = suc below == start.shape.levels

    still : Raises s s
    still = inl refl

    -- the batch of the pass is one of this aggregator's
    same_ready : (k : Kind) (b : ℕ) (g : Stage) → kind ≡ k → below ≡ b → aggregator start.shape p (suc b) ≡ index → IsReady start s g k b (aggregator start.shape p (suc b)) → IsReady start s g kind below index
    same_ready k b g x y z is = subst (λ (a : Kind). IsReady start s g a below index) (sym x) (subst (λ (a : ℕ). IsReady start s g k a index) (sym y) (subst (λ (a : ℕ). IsReady start s g k b a) z is))

    -- one of this aggregator's batches goes up
    raised : (g : Stage) (next : State) → IsReady start s g kind below index → up next ≡ up s ++ Batch index (lo_of g) (hi_of g) ∷ [] → Raises s next
    raised g next is pushed = inr (hi_of g, is.1, is.2, pushed ∙ ap (λ (lo : ℕ). up s ++ Batch index lo (hi_of g) ∷ []) is.0)

    -- a batch arrives one level above
    rises : (k : Kind) (b weight : ℕ) → Climbs start s p k (suc (suc b)) (λ m. local_step.Arrive m weight) → Raises s (arrives start s p k (suc (suc b)) weight)
    rises k b weight climbs =
        let g : Stage = stage start s k (suc b) p in
        let child : ℕ = aggregator start.shape p (suc b) in
        let next : State = arrives start s p k (suc (suc b)) weight in
        let one : Arrival = Batch child (lo_of g) (hi_of g) in
        let test : Bool = same_kind kind k && ((suc (suc below) == suc (suc b)) && (parent (suc below) index == aggregator start.shape p (suc (suc b)))) in
        let climb : IsClimbing start.shape.levels (stages_of start s p) k (suc (suc b)) = climbing start ok s w p k (suc (suc b)) climbs.0 in
        let shut = climb.closed (suc b) (omega arith) (omega arith) in
        let is = ready start ok s w p k b shut.0 shut.1 shut.2 (ap has_come climbs.1.1) in
        let new : Bool → Bool → List Arrival = λ t u. batches_from index (cond t main_batches (cond u (above ++ one ∷ []) above)) in
        let old : Bool → List Arrival = λ t. batches_from index (cond t main_batches above) in
        elim (cases_eq (suc below) start.shape.levels) [
          | inl top ↦ inl (ap (λ (t : Bool). new t test) (eq-eqb (suc below) start.shape.levels top) ∙ sym (ap old (eq-eqb (suc below) start.shape.levels top)))
          | inr not ↦ elim (same_place kind k (suc (suc below)) (suc (suc b)) (parent (suc below) index) (aggregator start.shape p (suc (suc b)))) [
            | inr other ↦ inl (ap (λ (u : Bool). new at_top u) other)
            | inl at ↦
                let low : at_top ≡ false = ne_eqb (suc below) start.shape.levels not in
                let now : up next ≡ batches_from index (above ++ one ∷ []) = ap (λ (t : Bool). new t test) low ∙ ap (λ (u : Bool). new false u) at.3 in
                let before : batches_from index above ≡ up s = sym (ap old low) in
                elim (cases_eq child index) [
                  | inr ne ↦ inl (now ∙ from_there index above child (lo_of g) (hi_of g) ne ∙ before)
                  | inl e ↦ raised g next (same_ready k b g at.0 (omega (arith, at.1)) e is) (now ∙ from_here index above child (lo_of g) (hi_of g) e ∙ ap (λ (zs : List Arrival). zs ++ Batch index (lo_of g) (hi_of g) ∷ []) before)
                ]
          ]
        ]

    -- a batch enters the main word
    enters_up : (k : Kind) (b amount at hi : ℕ) → suc b ≡ start.shape.levels → IsClimbing start.shape.levels (stages_of start s p) k (suc b) → stage start s k (suc b) p ≡ Shut at hi → Raises s (applies start s p k (suc b) amount)
    enters_up k b amount at hi top climb shut =
        let g : Stage = stage start s k (suc b) p in
        let child : ℕ = aggregator start.shape p (suc b) in
        let next : State = applies start s p k (suc b) amount in
        let step : MainStep = BatchStep k child (lo_of g) (hi_of g) in
        let is = ready start ok s w p k b at hi shut (ap has_come (climb.above (suc (suc b)) (omega arith))) in
        let longer : batches_of kind (s.steps ++ step ∷ []) ≡ main_batches ++ batches_of kind (step ∷ []) = batches-push kind s.steps step in
        let new : Bool → List Arrival → List Arrival = λ t zs. batches_from index (cond t zs above) in
        elim (cases_eq (suc below) start.shape.levels) [
          | inr not ↦ inl (ap (λ (t : Bool). new t (batches_of kind (s.steps ++ step ∷ []))) (ne_eqb (suc below) start.shape.levels not) ∙ sym (ap (λ (t : Bool). new t main_batches) (ne_eqb (suc below) start.shape.levels not)))
          | inl high ↦
              let now : up next ≡ batches_from index (main_batches ++ batches_of kind (step ∷ [])) = ap (new at_top) longer ∙ ap (λ (t : Bool). new t (main_batches ++ batches_of kind (step ∷ []))) (eq-eqb (suc below) start.shape.levels high) in
              let before : batches_from index main_batches ≡ up s = sym (ap (λ (t : Bool). new t main_batches) (eq-eqb (suc below) start.shape.levels high)) in
              let with_one : Bool → List Arrival = λ t. batches_from index (main_batches ++ cond t (Batch child (lo_of g) (hi_of g) ∷ []) []) in
              elim (different_kind k kind) [
                | inr differ ↦ inl (now ∙ ap with_one differ ∙ ap (batches_from index) (append-nil main_batches) ∙ before)
                | inl same ↦
                    let one : up next ≡ batches_from index (main_batches ++ Batch child (lo_of g) (hi_of g) ∷ []) = now ∙ ap with_one (ap (λ (x : Kind). same_kind x kind) same ∙ same_kind-refl kind) in
                    elim (cases_eq child index) [
                      | inr ne ↦ inl (one ∙ from_there index main_batches child (lo_of g) (hi_of g) ne ∙ before)
                      | inl e ↦ raised g next (same_ready k b g (sym same) (omega (arith, high, top)) e is) (one ∙ from_here index main_batches child (lo_of g) (hi_of g) e ∙ ap (λ (zs : List Arrival). zs ++ Batch index (lo_of g) (hi_of g) ∷ []) before)
                    ]
              ]
        ]

    applies_up : (k : Kind) (level amount at hi : ℕ) → level ≡ start.shape.levels → IsClimbing start.shape.levels (stages_of start s p) k level → stage start s k level p ≡ Shut at hi → Raises s (applies start s p k level amount)
    applies_up k zero amount at hi top climb shut = absurd (let low : 1 ≤ 0 = climb.low in omega arith)
    applies_up k (suc b) amount at hi top climb shut = enters_up k b amount at hi top climb shut

    -- a call enters the main word
    makes_up : (k : Kind) (amount : ℕ) → Raises s (makes start s p k amount)
    makes_up k amount = inl (ap (λ (zs : List Arrival). batches_from index (cond at_top zs above)) (batches-push kind s.steps (OwnStep (next_call s p k amount)) ∙ append-nil main_batches))

    -- a first arrival is a call
    first_up : (k : Kind) (weight : ℕ) → Raises s (arrives start s p k 1 weight)
    first_up k weight =
        let call : Arrival = Own (next_call s p k weight) in
        inl (ap (λ (zs : List Arrival). batches_from index (cond at_top main_batches zs)) (elim (same_place kind k (suc (suc below)) 1 (parent (suc below) index) (aggregator start.shape p 1)) [
          | inl at ↦ absurd (omega (arith, at.1))
          | inr other ↦ ap (λ (t : Bool). cond t (above ++ call ∷ []) above) other
        ]))

    either_up : (test : Bool) (x y : State) → Raises s x → Raises s y → Raises s (if test then x else y)
    either_up true x y a b = a
    either_up false x y a b = b

    moves_raise : (move : Move) → May start s p move → Raises s (moves start s p move)
    moves_raise (Scan k level other) may = still
    moves_raise (See k level) may = still
    moves_raise (Announce k level) may = still
    moves_raise (Arrive k zero weight) may = still
    moves_raise (Arrive k (suc zero) weight) may = first_up k weight
    moves_raise (Arrive k (suc (suc b)) weight) may = rises k b weight may.0
    moves_raise (Look k level) may = still
    moves_raise (Close k level) may = still
    moves_raise (Apply weight) may = subst (λ (x : Position). Raises s (applied_by start s p weight x)) (sym may.1) (applies_up kinds.Add may.0 weight may.2.1.0 may.2.1.1 may.2.0 (climbing start ok s w p kinds.Add may.0 may.1) may.2.1.2)
    moves_raise (Head k level) may = still
    moves_raise (Fill row field) may = subst (λ (x : Position). Raises s (filled_by start s p row field x)) (sym may.3.0) still
    moves_raise (Point k level row) may = still
    moves_raise (Publish k level) may = still
    moves_raise (Peek row field) may = subst (λ (x : Position). Raises s (peeked_by start s p x)) (sym may.2.0) still
    moves_raise (Leave k zero) may = still
    moves_raise (Leave k (suc zero)) may = still
    moves_raise (Leave k (suc (suc b))) may = still
    moves_raise (Load purpose.Try) (inl is) = subst (λ (x : Position). Raises s (loaded_by s p x)) (sym is) still
    moves_raise (Load purpose.Try) (inr may) = subst (λ (x : Position). Raises s (loaded_by s p x)) (sym may.2) still
    moves_raise (Load purpose.Read) is = makes_up kinds.Read 0
    moves_raise (Exchange k amount) (inl may) = subst (λ (x : Position). Raises s (exchanged_by start s p k amount x)) (sym may.1)
        (either_up (s.main == may.0) (goes_to (makes start s p k amount) p Resting) (goes_to s p Resting) (makes_up k amount) still)
    moves_raise (Exchange k amount) (inr may) =
        let fit : FitsAt start s p (Deciding k may.0 may.1) = subst (FitsAt start s p) may.2 (w.fits p) in
        subst (λ (x : Position). Raises s (exchanged_by start s p k amount x)) (sym may.2)
        (either_up (s.main == may.1) (goes_to (applies start s p k may.0 amount) p (Climbing k may.0)) (goes_to s p (Climbing k may.0)) (applies_up k may.0 amount fit.2 fit.3 fit.1 fit.0 fit.4) still)
    moves_raise (Direct amount) may = makes_up kinds.Add amount
    moves_raise Glance may = still

    -- what ends there when one more has gone up
    end_more : (hi : ℕ) → up s ≡ one_more s hi → end_of_batches index 0 (up s) ≡ hi
    end_more hi one = ap (end_of_batches index 0) one ∙ end_here index 0 (in_order index (here s).published) (here s).done hi

    end_all : up s ≡ in_order index (here s).published → end_of_batches index 0 (up s) ≡ (here s).done
    end_all all = ap (end_of_batches index 0) all ∙ end_in_order index (here s).published ∙ sym (w.good.inv kind (suc below) index).done_is

    -- where nothing is published
    unpublished : (next : State) → Whole start next → (here next).published ≡ (here s).published → Raises s next → AreUp s → AreUp next
    unpublished next after_it same raises are =
        let done : (here next).done ≡ (here s).done = (after_it.good.inv kind (suc below) index).done_is ∙ ap end_of same ∙ sym (w.good.inv kind (suc below) index).done_is in
        let more : (hi : ℕ) → one_more s hi ≡ one_more next hi = λ hi. ap (λ (bs : List trace.Batch). in_order index bs ++ Batch index (here s).done hi ∷ []) (sym same) ∙ ap (λ (d : ℕ). in_order index (here next).published ++ Batch index d hi ∷ []) (sym done) in
        elim raises [
          | inl kept ↦ elim are [
            | inl all ↦ inl (kept ∙ all ∙ ap (in_order index) (sym same))
            | inr one ↦ inr (one.0, omega (arith, one.1, done), kept ∙ one.2 ∙ more one.0)
          ]
          | inr new ↦ elim are [
            | inl all ↦ inr (new.0, omega (arith, new.1, done), new.3 ∙ ap (λ (zs : List Arrival). zs ++ Batch index (here s).done new.0 ∷ []) all ∙ more new.0)
            | inr one ↦ absurd (omega (arith, one.1, end_more one.0 one.2, end_up start s kind below index (here s).done new.2))
          ]
        ]

    -- where the pass publishes
    published : (next : State) (m at hi b r : ℕ) → (here s).stage m ≡ Pointed at hi b r → IsUp start s kind (suc below) index hi → (here next).published ≡ batch (here s).state at hi b r ∷ (here s).published → up next ≡ up s → AreUp s → AreUp next
    published next m at hi b r pointed ends adds kept are =
        let t : Traced = here s in
        let led : Leading t t.total (IsOurs start.shape.rows t m) (Pointed at hi b r) = subst (Leading t t.total (IsOurs start.shape.rows t m)) pointed ((w.good.inv kind (suc below) index).leading m) in
        let from : at ≡ t.done = led.0.0 in
        let to : at < hi = led.0.1 in
        let end = end_up start s kind below index hi ends in
        elim are [
          | inl all ↦ absurd (omega (arith, from, to, end, end_all all))
          | inr one ↦
              let same : one.0 ≡ hi = omega (arith, end, end_more one.0 one.2) in
              inl (kept ∙ one.2 ∙ ap (λ (x : ℕ). in_order index t.published ++ Batch index t.done x ∷ []) same ∙ ap (λ (x : ℕ). in_order index t.published ++ Batch index x hi ∷ []) (sym from) ∙ ap (in_order index) (sym adds))
        ]

    -- after an event
    next_up : p < start.shape.passes → (move : Move) → May start s p move → AreUp s → AreUp (moves start s p move)
    next_up range move may are =
        let next : State = moves start s p move in
        let after_it : Whole start next = moves_keep start ok s w p range move may in
        let raises = moves_raise move may in
        elim (taken start s p move may kind (suc below) index) [
          | inl same ↦ unpublished next after_it (ap (λ (t : Traced). t.published) same) raises are
          | inr step ↦ elim (step_adds (here s) step.0) [
            | inl same ↦ unpublished next after_it (ap (λ (t : Traced). t.published) step.3 ∙ same) raises are
            | inr adds ↦
                let m : ℕ = adds.0 in
                let hi : ℕ = adds.2 in
                let alone = publish_alone start s p move kind (suc below) step.0 m step.2 adds.5 in
                let own : ℕ = aggregator start.shape p (suc below) in
                let pointed : stage start s kind (suc below) p ≡ Pointed adds.1 hi adds.3 adds.4 = ap (s.rows kind (suc below) own).stage (sym alone.1) ∙ ap (λ (i : ℕ). (s.rows kind (suc below) i).stage m) (sym step.1) ∙ adds.6 in
                let gone : Gone start s p kind (suc below) hi = subst (λ (g : Stage). HasGone g (stage start s kind (suc (suc below)) p) hi) (sym pointed) refl in
                published next m adds.1 hi adds.3 adds.4 adds.6 (subst (λ (i : ℕ). IsUp start s kind (suc below) i hi) (sym step.1) (w.contiguous.gone p kind below hi gone))
                (ap (λ (t : Traced). t.published) step.3 ∙ adds.7) (subst (λ (x : Move). up (moves start s p x) ≡ up s) (sym alone.0) refl) are
          ]
        ]

    -- the one that isn't published is a pass's
    known_up : AreUp s → (up s ≡ in_order index (here s).published) ⊎ ((pass hi : ℕ) × (aggregator start.shape pass (suc below) ≡ index) × Gone start s pass kind (suc below) hi × (up s ≡ one_more s hi))
    known_up (inl all) = inl all
    known_up (inr one) = elim (w.contiguous.back kind below index) [
      | inl done ↦ absurd (omega (arith, one.1, end_more one.0 one.2, end_up start s kind below index (here s).done done))
      | inr back ↦
          let ends = subst (λ (i : ℕ). IsUp start s kind (suc below) i back.1) back.2 (w.contiguous.gone back.0 kind below back.1 back.3) in
          let same : one.0 ≡ back.1 = omega (arith, end_more one.0 one.2, end_up start s kind below index back.1 ends) in
          inr (back.0, back.1, back.2, back.3, one.2 ∙ ap (one_more s) same)
    ]

  -- after events
  all_up : IsStart start → (log : List Event) (s : State) → Whole start s → AreUp s → Legal start log s → Whole start (run start log s) × AreUp (run start log s)
  all_up ok [] s w are legal = (w, are)
  all_up ok (event ∷ log) s w are legal =
      all_up ok log (effect start s event) (moves_keep start ok s w event.pass legal.0.0 event.step legal.0.1) (next_up ok s w event.pass legal.0.0 event.step legal.0.1 are) legal.1

  opened_up : AreUp (opened start)
  opened_up = inl (by (suc below == start.shape.levels))
    where
      by : (t : Bool) → batches_from index (cond t [] []) ≡ []
      by true = refl
      by false = refl

pub published_have_gone_up : PublishedHaveGoneUp
published_have_gone_up start log ok legal kind below index =
    let both = all_up start kind below index ok log (opened start) (opened_whole start ok) (opened_up start kind below index) legal in
    known_up start kind below index ok (run start log (opened start)) both.0 0 both.1
