-- The arrivals: of a call at its leaf, and of a batch one level above.
use Rattle.std.proofs.Common.{◌≡◌, ◌⊎◌, inl, inr, ℕ, suc, ◌+◌, ◌-◌, ◌<◌, ◌≤◌, List, [], ◌∷◌, ◌++◌, Bool, cond, refl, sym, ◌∙◌, ap, subst, arith}
use Rattle.std.proofs.lemmas.Bool.{cases_eq}
use Rattle.fn_model.specs.declared.Call.{Call}
use Rattle.fn_model.specs.declared.Kind.{Kind}
use Rattle.fn_model.specs.Arrivals.{Arrival, Own, Batch, ArrivesAt, IsSound}
use Rattle.fn_model.specs.Order.{end_of_batches, GoesOn}
use Rattle.fn_model.proofs.Orderly.{arrives_last, boundary_offset}
use Rattle.fn_rows.specs.declared.Stage.{Stage}
use Rattle.fn_rows.specs.declared.Stage.TheVariants.{Out, Told, Waiting, Shut}
use Rattle.fn_rows.specs.Machine.{Step, put}
use Rattle.fn_rows.specs.Machine as local_step
use Rattle.fn_rows.specs.Trace.{Traced, traced}
use Rattle.fn_rows.specs.Law.{leads}
use Rattle.fn_rows.proofs.Invariant.{Leading, IsOurs}
use Rattle.fn_rows.proofs.Put.{put_here}
use Rattle.fn_core.specs.Tree.{parent, aggregator, member, members}
use Rattle.fn_core.specs.State.{Start, Caller, State, history_in, stage, local, after_call, spends, receives, next_call, lo_of, hi_of}
use Rattle.fn_core.specs.Machine.{IsStart, Climbs, MaySpend, weight_of, arrives}
use Rattle.fn_core.proofs.Turns.{Turn, comes}
use Rattle.fn_core.proofs.Members.{member_within}
use Rattle.fn_core.proofs.Places.{same_place, kind_cases, put_at_case, arrival_here, arrival_there, totals_arrive}
use Rattle.fn_core.proofs.Known.{Knows}
use Rattle.fn_core.proofs.Good.{Good, local_stage, local_other, local_keeps, receives_keeps, spends_keeps}
use Rattle.fn_core.specs.Positions.{is_out, IsClimbing}
use Rattle.fn_core.proofs.Positions.{fits_same, climbing_here}
use Rattle.fn_core.specs.Batches.{Gone, IsUp, has_come}
use Rattle.fn_core.proofs.Contiguous.{gone_as, gone_cases, own_to, own_from, rest_to, rest_from, contiguous_bottom, contiguous_up, up_at, end_here, end_there}
use Rattle.fn_core.proofs.Whole.{Whole, stages_of, FitsAt, put_fits, climbing, knows_at}

-- the new arrival stands at the old total
stands_last : (start : Start) (s : State) (w : Whole start s) (kind : Kind) (level index : ℕ) (a : Arrival) → ArrivesAt ((receives s kind level index a).arrivals kind level index) (s.rows kind level index).total a
stands_last start s w kind level index a =
    subst (λ (zs : List Arrival). ArrivesAt zs (s.rows kind level index).total a) (sym (arrival_here s.arrivals kind level index a))
    (subst (λ (n : ℕ). ArrivesAt (s.arrivals kind level index ++ a ∷ []) n a) (sym (w.totals kind level index)) (arrives_last (s.arrivals kind level index) a))

module _ (start : Start) (ok : IsStart start) (s : State) (w : Whole start s) (p : ℕ) (range : p < start.shape.passes) (kind : Kind) (amount : ℕ) where
  -- a call arrives at its leaf
  module _ (climbs : Climbs start s p kind 1 (λ m. local_step.Arrive m amount)) (may : MaySpend s p amount) where
    abbrev index : ℕ
    index = aggregator start.shape p 1

    abbrev m : ℕ
    m = member start.shape 1 p

    abbrev t : Traced
    t = s.rows kind 1 index

    abbrev up : IsClimbing start.shape.levels (stages_of start s p) kind 1
    up = climbing start ok s w p kind 1 climbs.0

    abbrev call : Call
    call = next_call s p kind amount

    abbrev caller : Caller
    caller = after_call (s.callers p) call

    abbrev spent : State
    spent = spends s p call

    idle : (k : Kind) → Knows start.cap start.opening k (s.arrivals k) (history_in start s) 0 (aggregator start.shape p 1) (λ a. ⊥) (stage start s k 1 p)
    idle k = elim (kind_cases k kind) [
      | inl e ↦ subst (Knows start.cap start.opening k (s.arrivals k) (history_in start s) 0 (aggregator start.shape p 1) (λ a. ⊥)) (sym (ap (λ (x : Kind). stage start s x 1 p) e ∙ climbs.1.1)) tt
      | inr ne ↦ subst (Knows start.cap start.opening k (s.arrivals k) (history_in start s) 0 (aggregator start.shape p 1) (λ a. ⊥)) (sym (up.other k 1 ne)) tt
    ]

    good_spent : Good start spent
    good_spent = spends_keeps start ok.shape s w.good p call idle

    abbrev more : State
    more = receives spent kind 1 index (Own call)

    good_more : Good start more
    good_more = receives_keeps start ok.shape spent good_spent kind 0 index (Own call) (refl, refl, may.0) refl tt

    abbrev step : ℕ → Step
    step i = local_step.Arrive i amount

    turn : Turn (members start.shape 1 index) start.shape.rows t (traced t (step m)) m (Waiting t.total) (t.total + amount) t.done t.linked
    turn = comes (members start.shape 1 index) start.shape.rows t (w.good.inv kind 1 index) m (member_within start.shape ok.shape 0 p range) climbs.1.0 amount climbs.1.1 may.0

    abbrev then : State
    then = local start more kind 1 p step

    pub here' : stage start then kind 1 p ≡ Waiting t.total
    here' = local_stage start ok.shape more good_more p kind 0 step (Waiting t.total) (t.total + amount) t.done t.linked turn

    there' : (k : Kind) (l q : ℕ) → (k ≡ kind → l ≡ 1 → q ≡ p → ⊥) → stage start then k l q ≡ stage start s k l q
    there' = local_other start ok.shape more good_more p kind 0 step (Waiting t.total) (t.total + amount) t.done t.linked turn

    last_is : call ≡ (spent.callers p).last
    last_is = ap (λ (c : Caller). c.last) (sym (put_here s.callers p caller p refl))

    pub first_keeps : Whole start (arrives start s p kind 1 amount)
    first_keeps = record {
      good = local_keeps start ok.shape more good_more p kind 0 step (Waiting t.total) (t.total + amount) t.done t.linked turn (up.above 2 (omega arith))
          (Own call, ap Own last_is, stands_last start s w kind 1 index (Own call)) (good_more.batches kind 1 index);
      fits = put_fits start then s.callers p caller (λ q ne. fits_same start.shape.levels (stages_of start s q) (stages_of start then q) (s.callers q).position (λ k l. there' k l q (λ x y z. ne z)) (w.fits q))
          (subst (FitsAt start then p) (sym climbs.0) (climbing_here start.shape.levels (stages_of start s p) (stages_of start then p) kind 1 (λ k l not. there' k l p (λ x y z. not x y)) (ap is_out here') up));
      totals = totals_arrive s.rows s.arrivals kind 1 index (traced t (step m)) (Own call) turn.total_is w.totals;
      contiguous =
          let c = contiguous_bottom start s then p kind 0 (Told climbs.1.0) (Waiting t.total) climbs.1.1 (up.above 2 (omega arith)) here' there' refl (λ h x. x) (λ h x. x)
          (λ k b i e is. (is.0, λ ne. ap (end_of_batches i 0) (arrival_there s.arrivals kind 1 index (Own call) k (suc (suc b)) (parent (suc b) i) (λ x y z. omega (arith, y))) ∙ is.1 ne))
          (λ k l i. put_at_case (λ k l i t. t.done ≡ (s.rows k l i).done) s.rows kind 1 index (traced t (step m)) turn.done_is k l i refl) w.contiguous in
          record { gone = c.gone; back = c.back };
    }

  -- a batch arrives one level above
  module _ (below : ℕ) (climbs : Climbs start s p kind (suc (suc below)) (λ m. local_step.Arrive m amount)) (may : amount ≡ weight_of start s p kind (suc below)) where
    abbrev top_index : ℕ
    top_index = aggregator start.shape p (suc (suc below))

    abbrev child : ℕ
    child = aggregator start.shape p (suc below)

    abbrev n : ℕ
    n = member start.shape (suc (suc below)) p

    abbrev u : Traced
    u = s.rows kind (suc (suc below)) top_index

    abbrev lower : Stage
    lower = stage start s kind (suc below) p

    abbrev climb : IsClimbing start.shape.levels (stages_of start s p) kind (suc (suc below))
    climb = climbing start ok s w p kind (suc (suc below)) climbs.0

    abbrev shut : (at hi : ℕ) × (lower ≡ Shut at hi)
    shut = climb.closed (suc below) (omega arith) (omega arith)

    abbrev at : ℕ
    at = shut.0

    abbrev hi : ℕ
    hi = shut.1

    is_shut : lower ≡ Shut at hi
    is_shut = shut.2

    abbrev batch : Arrival
    batch = Batch child (lo_of lower) (hi_of lower)

    batch_is : batch ≡ Batch child at hi
    batch_is = ap (λ (x : Stage). Batch child (lo_of x) (hi_of x)) is_shut

    weighs : amount ≡ hi - at
    weighs = may ∙ ap (λ (x : Stage). hi_of x - lo_of x) is_shut

    closed : Leading (s.rows kind (suc below) child) (s.rows kind (suc below) child).total (IsOurs start.shape.rows (s.rows kind (suc below) child) (member start.shape (suc below) p)) (Shut at hi)
    closed = subst (Leading (s.rows kind (suc below) child) (s.rows kind (suc below) child).total (IsOurs start.shape.rows (s.rows kind (suc below) child) (member start.shape (suc below) p))) is_shut ((w.good.inv kind (suc below) child).leading (member start.shape (suc below) p))

    pub sound : IsSound kind (s.arrivals kind) (suc below) batch
    sound =
        let known = knows_at start ok s w p kind below (Shut at hi) is_shut in
        subst (IsSound kind (s.arrivals kind) (suc below)) (sym batch_is) (omega arith, closed.1, boundary_offset (s.arrivals kind (suc below) child) at known.0.0 known.0.2, known.1)

    not_top : (suc below ≡ start.shape.levels) → ⊥
    not_top e = let h : suc (suc below) ≤ start.shape.levels = climb.high in omega (arith, e)

    goes_on : GoesOn (s.arrivals kind (suc (suc below)) top_index) batch
    goes_on = (up_at start ok.shape s w.good.inv w.contiguous p kind below at hi is_shut (ap has_come climbs.1.1)).1 not_top ∙ sym (ap lo_of is_shut)

    abbrev raised : State
    raised = receives s kind (suc (suc below)) top_index batch

    good_raised : Good start raised
    good_raised = receives_keeps start ok.shape s w.good kind (suc below) top_index batch sound refl goes_on

    abbrev rise : ℕ → Step
    rise i = local_step.Arrive i amount

    rise_turn : Turn (members start.shape (suc (suc below)) top_index) start.shape.rows u (traced u (rise n)) n (Waiting u.total) (u.total + amount) u.done u.linked
    rise_turn = comes (members start.shape (suc (suc below)) top_index) start.shape.rows u (w.good.inv kind (suc (suc below)) top_index) n (member_within start.shape ok.shape (suc below) p range) climbs.1.0 amount climbs.1.1 (let some : at < hi = closed.1 in omega (arith, weighs))

    abbrev risen : State
    risen = local start raised kind (suc (suc below)) p rise

    here'' : stage start risen kind (suc (suc below)) p ≡ Waiting u.total
    here'' = local_stage start ok.shape raised good_raised p kind (suc below) rise (Waiting u.total) (u.total + amount) u.done u.linked rise_turn

    there'' : (k : Kind) (l q : ℕ) → (k ≡ kind → l ≡ suc (suc below) → q ≡ p → ⊥) → stage start risen k l q ≡ stage start s k l q
    there'' = local_other start ok.shape raised good_raised p kind (suc below) rise (Waiting u.total) (u.total + amount) u.done u.linked rise_turn

    upper_out : stage start s kind (suc (suc (suc below))) p ≡ Out
    upper_out = climb.above (suc (suc (suc below))) (omega arith)

    abbrev From : ℕ → Kind → ℕ → Type 0
    From q k b = (h : ℕ) → Gone start risen q k (suc b) h → (Gone start s q k (suc b) h × (k ≡ kind → b ≡ below → q ≡ p → ⊥)) ⊎ ((q ≡ p) × (k ≡ kind) × (b ≡ below) × (hi ≡ h))

    from : (q : ℕ) (k : Kind) (b : ℕ) → From q k b
    from = gone_cases start s risen p kind (suc below) (Told climbs.1.0) (Waiting u.total) climbs.1.1 upper_out here'' there'' From
        (λ h is. inl (own_from start s risen p kind (suc below) (Told climbs.1.0) (Waiting u.total) climbs.1.1 upper_out here'' there'' (λ h x. x) h is, λ x y z. omega (arith, y)))
        (λ b e h is. let low : b ≡ below = omega (arith, e) in
        inr (refl, refl, low, (gone_as (stage start risen kind (suc below) p) (Shut at hi) (stage start risen kind (suc (suc below)) p) (stage start risen kind (suc (suc below)) p) h (sym (there'' kind (suc below) p (λ x y z. omega (arith, y)) ∙ is_shut)) refl (subst (λ (l : ℕ). Gone start risen p kind (suc l) h) low is)).0))
        (λ q k b not under e f h is. inl (rest_from start s risen p kind (suc below) (Told climbs.1.0) (Waiting u.total) climbs.1.1 upper_out here'' there'' q k b e f h is, λ x y z. under x (ap suc y) z))

    abbrev To : ℕ → Kind → ℕ → Type 0
    To q k b = (h : ℕ) → (k ≡ kind → b ≡ below → q ≡ p → ⊥) → Gone start s q k (suc b) h → Gone start risen q k (suc b) h

    to : (q : ℕ) (k : Kind) (b : ℕ) → To q k b
    to = gone_cases start s risen p kind (suc below) (Told climbs.1.0) (Waiting u.total) climbs.1.1 upper_out here'' there'' To
        (λ h not is. own_to start s risen p kind (suc below) (Told climbs.1.0) (Waiting u.total) climbs.1.1 upper_out here'' there'' (λ h x. x) h is)
        (λ b e h not is. absurd (not refl (omega (arith, e)) refl))
        (λ q k b not under e f h skip is. rest_to start s risen p kind (suc below) (Told climbs.1.0) (Waiting u.total) climbs.1.1 upper_out here'' there'' q k b e f h is)

    up_there : (k : Kind) (b i e : ℕ) → (k ≡ kind → b ≡ below → i ≡ child → ⊥) → IsUp start s k (suc b) i e → IsUp start risen k (suc b) i e
    up_there k b i e not is = (is.0, λ ne. still ∙ is.1 ne)
      where
        still : end_of_batches i 0 (raised.arrivals k (suc (suc b)) (parent (suc b) i)) ≡ end_of_batches i 0 (s.arrivals k (suc (suc b)) (parent (suc b) i))
        still = elim (same_place k kind (suc (suc b)) (suc (suc below)) (parent (suc b) i) top_index) [
          | inl is ↦ ap (λ (t : Bool). end_of_batches i 0 (cond t (s.arrivals k (suc (suc b)) (parent (suc b) i) ++ batch ∷ []) (s.arrivals k (suc (suc b)) (parent (suc b) i)))) is.3
              ∙ end_there i 0 (s.arrivals k (suc (suc b)) (parent (suc b) i)) child (lo_of lower) (hi_of lower) (λ e. not is.0 (omega (arith, is.1)) (sym e))
          | inr other ↦ ap (λ (t : Bool). end_of_batches i 0 (cond t (s.arrivals k (suc (suc b)) (parent (suc b) i) ++ batch ∷ []) (s.arrivals k (suc (suc b)) (parent (suc b) i)))) other
        ]

    pub rises_keeps : Whole start (arrives start s p kind (suc (suc below)) amount)
    rises_keeps = record {
      good = local_keeps start ok.shape raised good_raised p kind (suc below) rise (Waiting u.total) (u.total + amount) u.done u.linked rise_turn upper_out
          (batch, (at, hi, is_shut, batch_is), stands_last start s w kind (suc (suc below)) top_index batch) (good_raised.batches kind (suc (suc below)) top_index);
      fits = λ q. elim (cases_eq q p) [
        | inr ne ↦ fits_same start.shape.levels (stages_of start s q) (stages_of start risen q) (s.callers q).position (λ k l. there'' k l q (λ x y z. ne z)) (w.fits q)
        | inl is ↦ subst (λ (i : ℕ). FitsAt start risen i (s.callers i).position) (sym is)
            (subst (FitsAt start risen p) (sym climbs.0) (climbing_here start.shape.levels (stages_of start s p) (stages_of start risen p) kind (suc (suc below)) (λ k l not. there'' k l p (λ x y z. not x y)) (ap is_out here'') climb))
      ];
      totals = totals_arrive s.rows s.arrivals kind (suc (suc below)) top_index (traced u (rise n)) batch (rise_turn.total_is ∙ ap (λ (x : ℕ). u.total + x) may) w.totals;
      contiguous = contiguous_up start ok.shape s risen w.good.inv p kind below hi (ap leads is_shut) (λ q k b h is. from q k b h is) (λ q k b h not is. to q k b h not is)
          (gone_as (Shut at hi) (stage start risen kind (suc below) p) (Waiting u.total) (stage start risen kind (suc (suc below)) p) hi (there'' kind (suc below) p (λ x y z. omega (arith, y)) ∙ is_shut) here'' (refl, refl))
          ((λ e. absurd (not_top e)), (λ ne. ap (end_of_batches child 0) (arrival_here s.arrivals kind (suc (suc below)) top_index batch) ∙ end_here child 0 (s.arrivals kind (suc (suc below)) top_index) (lo_of lower) (hi_of lower) ∙ ap hi_of is_shut))
          up_there
          (λ k l i. put_at_case (λ k l i t. t.done ≡ (s.rows k l i).done) s.rows kind (suc (suc below)) top_index (traced u (rise n)) rise_turn.done_is k l i refl)
          w.contiguous;
    }
