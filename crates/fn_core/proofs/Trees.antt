-- One step of the main word stands for a whole tree of batches.
use Rattle.std.proofs.Common.{◌≡◌, ◌⊎◌, inl, inr, ℕ, zero, suc, ◌-◌, ◌<◌, List, [], ◌∷◌, ◌++◌, Bool, true, false, refl, sym, ◌∙◌, ap, subst, arith, append_assoc}
use Rattle.std.specs.Prelude.{if◌then◌else◌, ◌==◌, All}
use Rattle.std.proofs.lemmas.Grind.{flat_map-append}
use Rattle.fn_model.specs.declared.Call.{Call}
use Rattle.fn_model.specs.declared.Kind.{Kind}
use Rattle.fn_model.specs.declared.Kind.TheVariants as kinds
use Rattle.fn_model.specs.Arrivals.{Arrival, Own, Batch, Table, IsSound, IsBoundary, calls_of, expand}
use Rattle.fn_model.specs.Histories.{MainStep, OwnStep, BatchStep, StandsIn, IsSoundStep, calls_of_step, history}
use Rattle.fn_model.specs.Integer.{after, value}
use Rattle.fn_model.proofs.Histories.{descend, value-batch}
use Rattle.fn_core.specs.declared.Purpose.TheVariants as purpose
use Rattle.fn_core.specs.declared.Move.{Move}
use Rattle.fn_core.specs.declared.Move.TheVariants.{Scan, See, Announce, Arrive, Look, Close, Apply, Head, Fill, Point, Publish, Peek, Leave, Load, Exchange, Direct, Glance}
use Rattle.fn_core.specs.Tree.{aggregator}
use Rattle.fn_core.specs.State.{Start, Position, Resting, Climbing, State, opened, history_in, stage, goes_to, next_call, lo_of, hi_of}
use Rattle.fn_core.specs.Machine.{IsStart, May, run, moves, makes, applies, applied_by, filled_by, peeked_by, loaded_by, exchanged_by}
use Rattle.fn_core.specs.Trees.{ArrivalStands, TreeStands, TreesStand, OneStepAnEvent}
use Rattle.fn_core.proofs.Whole.{Whole}
use Rattle.fn_core.proofs.Replies.{All-middle, arrival_sound}
use Rattle.fn_core.proofs.Grows.{holds}

module _ (start : Start) (ok : IsStart start) (s : State) (w : Whole start s) (kind : Kind) where
  abbrev table : Table
  table = s.arrivals kind

  abbrev past : List Call
  past = history_in start s

  abbrev Stands : List Call → ℕ → Type 0
  Stands calls met = StandsIn start.cap start.opening past calls met

  abbrev Under : ℕ → ℕ → ℕ → ℕ → ℕ → Type 0
  Under = TreeStands start.cap start.opening past kind table

  -- where a batch stands, so does the tree under it
  tree_stands : (level index lo hi base : ℕ) → IsBoundary (table level index) lo → Stands (expand table level index lo hi) base → Under level index lo hi base
  tree_stands zero index lo hi base from stands = tt
  tree_stands (suc below) index lo hi base from stands = (
    stands,
    λ x arrival found low high. by (λ child child_lo child_hi met under. tree_stands below child child_lo child_hi met under) arrival (arrival_sound kind table (w.good.orderly.formed kind) below index x arrival found) (after start.cap base kind (x - lo))
        (descend start.cap start.opening past kind table below index lo hi base x arrival ok.opening (w.good.orderly.formed kind) from low high found stands),
  )
    where
      by : ((child child_lo child_hi met : ℕ) → IsBoundary (table below child) child_lo → Stands (expand table below child child_lo child_hi) met → Under below child child_lo child_hi met)
          → (arrival : Arrival) → IsSound kind table below arrival → (met : ℕ) → Stands (calls_of (expand table below) arrival) met → ArrivalStands (Under below) start.cap start.opening past arrival met
      by under (Own call) sound met stands = stands
      by under (Batch child child_lo child_hi) sound met stands = under child child_lo child_hi met sound.2 stands

pub trees_stand : TreesStand
trees_stand start log ok legal earlier later kind index lo hi is =
    let s : State = run start log (opened start) in
    let w : Whole start s = (holds start log ok legal).0 in
    let levels : ℕ = start.shape.levels in
    let one : MainStep → List Call = calls_of_step s.arrivals levels in
    let sound : IsSoundStep s.arrivals levels (BatchStep kind index lo hi) = All-middle (IsSoundStep s.arrivals levels) earlier (BatchStep kind index lo hi) later (subst (All (IsSoundStep s.arrivals levels)) is w.good.orderly.sound_steps) in
    let less : lo < hi = sound.0 in
    let past : List Call = history s.arrivals levels earlier in
    let calls : List Call = expand (s.arrivals kind) levels index lo hi in
    let order : history_in start s ≡ past ++ calls ++ history s.arrivals levels later = ap (history s.arrivals levels) is ∙ flat_map-append one earlier (BatchStep kind index lo hi ∷ later) ∙ sym (append_assoc past calls (history s.arrivals levels later)) in
    let top : suc (levels - 1) ≡ levels = omega (arith, ok.shape.levels) in
    let weighs = λ (level : ℕ) (from : IsBoundary (s.arrivals kind (suc level) index) lo) (to : IsBoundary (s.arrivals kind (suc level) index) hi).
    value-batch start.cap start.opening past kind (s.arrivals kind) level index lo hi ok.opening (w.good.orderly.formed kind) (omega (arith, less)) from to in (
      order,
      subst (λ (level : ℕ). IsBoundary (s.arrivals kind level index) lo → IsBoundary (s.arrivals kind level index) hi → value start.cap start.opening (past ++ expand (s.arrivals kind) level index lo hi) ≡ after start.cap (value start.cap start.opening past) kind (hi - lo)) top (weighs (levels - 1)) sound.1 sound.2,
      tree_stands start ok s w kind levels index lo hi (value start.cap start.opening past) sound.1 (record { earlier = past; later = history s.arrivals levels later; order = order; met = refl }),
    )

-- the main word and what has entered it are as they were, or one step has entered
abbrev EntersOne : State → State → Type 0
EntersOne s next = ((next.main ≡ s.main) × (next.steps ≡ s.steps)) ⊎ ((step : MainStep) × (next.steps ≡ s.steps ++ step ∷ []))

either_enters : (s : State) (test : Bool) (x y : State) → EntersOne s x → EntersOne s y → EntersOne s (if test then x else y)
either_enters s true x y a b = a
either_enters s false x y a b = b

module _ (start : Start) (s : State) (p : ℕ) where
  still : EntersOne s s
  still = inl (refl, refl)

  makes_enters : (kind : Kind) (amount : ℕ) → EntersOne s (makes start s p kind amount)
  makes_enters kind amount = inr (OwnStep (next_call s p kind amount), refl)

  applies_enters : (kind : Kind) (level amount : ℕ) → EntersOne s (applies start s p kind level amount)
  applies_enters kind level amount = inr (BatchStep kind (aggregator start.shape p level) (lo_of (stage start s kind level p)) (hi_of (stage start s kind level p)), refl)

  moves_enter : (step : Move) → May start s p step → EntersOne s (moves start s p step)
  moves_enter (Scan kind level other) may = still
  moves_enter (See kind level) may = still
  moves_enter (Announce kind level) may = still
  moves_enter (Arrive kind zero weight) may = still
  moves_enter (Arrive kind (suc zero) weight) may = still
  moves_enter (Arrive kind (suc (suc below)) weight) may = still
  moves_enter (Look kind level) may = still
  moves_enter (Close kind level) may = still
  moves_enter (Apply weight) may = subst (λ (x : Position). EntersOne s (applied_by start s p weight x)) (sym may.1) (applies_enters kinds.Add may.0 weight)
  moves_enter (Head kind level) may = still
  moves_enter (Fill row field) may = subst (λ (x : Position). EntersOne s (filled_by start s p row field x)) (sym may.3.0) still
  moves_enter (Point kind level row) may = still
  moves_enter (Publish kind level) may = still
  moves_enter (Peek row field) may = subst (λ (x : Position). EntersOne s (peeked_by start s p x)) (sym may.2.0) still
  moves_enter (Leave kind zero) may = still
  moves_enter (Leave kind (suc zero)) may = still
  moves_enter (Leave kind (suc (suc below))) may = still
  moves_enter (Load purpose.Try) (inl is) = subst (λ (x : Position). EntersOne s (loaded_by s p x)) (sym is) still
  moves_enter (Load purpose.Try) (inr may) = subst (λ (x : Position). EntersOne s (loaded_by s p x)) (sym may.2) still
  moves_enter (Load purpose.Read) is = makes_enters kinds.Read 0
  moves_enter (Exchange kind amount) (inl may) = subst (λ (x : Position). EntersOne s (exchanged_by start s p kind amount x)) (sym may.1)
      (either_enters s (s.main == may.0) (goes_to (makes start s p kind amount) p Resting) (goes_to s p Resting) (makes_enters kind amount) still)
  moves_enter (Exchange kind amount) (inr may) = subst (λ (x : Position). EntersOne s (exchanged_by start s p kind amount x)) (sym may.2)
      (either_enters s (s.main == may.1) (goes_to (applies start s p kind may.0 amount) p (Climbing kind may.0)) (goes_to s p (Climbing kind may.0)) (applies_enters kind may.0 amount) still)
  moves_enter (Direct amount) may = makes_enters kinds.Add amount
  moves_enter Glance may = still

pub one_step_an_event : OneStepAnEvent
one_step_an_event start log ok legal event allowed = moves_enter start (run start log (opened start)) event.pass event.step allowed.1
