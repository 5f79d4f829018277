-- An event changes nothing of any other pass.
use Rattle.std.proofs.Common.{◌≡◌, ◌≢◌, inl, inr, ℕ, zero, suc, ◌-◌, ◌/◌, ◌<◌, ◌≤◌, Bool, true, false, cond, [], ◌∷◌, refl, sym, ◌∙◌, ap, subst, arith}
use Rattle.std.specs.Prelude.{if◌then◌else◌, ◌==◌, Some, None}
use Rattle.fn_model.specs.declared.Kind.{Kind}
use Rattle.fn_model.specs.declared.Kind.TheVariants as kinds
use Rattle.fn_rows.specs.declared.Stage.{Stage}
use Rattle.fn_rows.specs.declared.Stage.TheVariants.{Out, Saw, Told, Waiting, Lead, Late, Shut, Based, Headed, Filled, Pointed, At, Over, Hit, Got}
use Rattle.fn_rows.specs.declared.Field.{Field}
use Rattle.fn_rows.specs.declared.Field.TheVariants.{Lo, Base, Prev}
use Rattle.fn_rows.specs.Machine.{put, moved, announce_by, look_by, close_by, hand_by, head_by, stored, filled, fill_by, point_by, publish_by, peek_by, member_of, looked, peeked}
use Rattle.fn_rows.specs.Machine as local_step
use Rattle.fn_rows.specs.Trace.{Traced, traced, head_noted, point_noted, publish_noted, peek_noted}
use Rattle.fn_rows.proofs.Invariant.{Leading, IsOurs}
use Rattle.fn_rows.proofs.Put.{put_there}
use Rattle.fn_core.specs.declared.Purpose.TheVariants as purpose
use Rattle.fn_core.specs.declared.Move.{Move}
use Rattle.fn_core.specs.declared.Move.TheVariants.{Scan, See, Announce, Arrive, Look, Close, Apply, Head, Fill, Point, Publish, Peek, Leave, Load, Exchange, Direct, Glance}
use Rattle.fn_core.specs.Tree.{aggregator, member, IsShape}
use Rattle.fn_core.specs.State.{Start, Position, Resting, Trying, Climbing, Deciding, State, opened, stage, local, goes_to, after_call, next_call, reply_of}
use Rattle.fn_core.specs.Machine.{IsStart, May, Climbs, run, moves, makes, applies, applied_by, filled_by, peeked_by, loaded_by, exchanged_by, leaves, fills, place}
use Rattle.fn_core.specs.Laws.{IsUntouched, IsLeftAlone, EventsAreLocal}
use Rattle.fn_core.proofs.Members.{member_apart}
use Rattle.fn_core.proofs.Places.{same_place}
use Rattle.fn_core.proofs.Whole.{Whole, stages_of, FitsAt, climbing}
use Rattle.fn_core.specs.Positions.{IsClimbing}
use Rattle.fn_core.proofs.Counted.{opened_counted, log_counted}
use Rattle.fn_core.proofs.Climbs.{not_below}
use Rattle.fn_core.proofs.Descends.{middle_there}
use Rattle.fn_core.proofs.Log.{opened_whole}

-- the same state
same_untouched : (rows : ℕ) (t : Traced) (q : ℕ) → IsUntouched rows t t q
same_untouched rows t q = record { stage = refl; announced = refl; found = refl; ends = λ r own. refl; walk = refl }

then_untouched : (rows : ℕ) (a b c : Traced) (q : ℕ) → IsUntouched rows a b q → IsUntouched rows b c q → IsUntouched rows a c q
then_untouched rows a b c q x y = record { stage = y.stage ∙ x.stage; announced = y.announced ∙ x.announced; found = y.found ∙ x.found; ends = λ r own. y.ends r own ∙ x.ends r own; walk = y.walk ∙ x.walk }

-- a step of one member leaves the others as they are
module _ (rows : ℕ) (t : Traced) (q m : ℕ) (ne : q ≢ m) where
  abbrev Left : local_step.State → Type 0
  Left next = IsUntouched rows t (record t { state = next }) q

  -- only the stage
  stage_left : (g : Stage) → Left (moved t.state m g)
  stage_left g = record { stage = put_there t.stage m g q ne; announced = refl; found = refl; ends = λ r own. refl; walk = refl }

  as_it_is : Left t.state
  as_it_is = same_untouched rows t q

  announce_left : (g : Stage) → Left (announce_by t.state m g)
  announce_left (Saw seen) = record { stage = put_there t.stage m (Told seen) q ne; announced = put_there t.announced m (suc seen) q ne; found = refl; ends = λ r own. refl; walk = refl }
  announce_left _ = as_it_is

  look_left : (g : Stage) → Left (look_by t.state m g)
  look_left (Waiting at) = stage_left (looked at t.done)
  look_left _ = as_it_is

  close_left : (g : Stage) → Left (close_by t.state m g)
  close_left (Lead at) = stage_left (Shut at t.total)
  close_left _ = as_it_is

  hand_left : (b : ℕ) (g : Stage) → Left (hand_by t.state m b g)
  hand_left b (Shut at hi) = stage_left (Based at hi b)
  hand_left b _ = as_it_is

  head_left : (g : Stage) → Left (head_by t.state m g)
  head_left (Based at hi b) = stage_left (Headed at hi b t.last)
  head_left (Late at) = stage_left (At at (t.last - 1))
  head_left _ = as_it_is

  fill_left : (r : ℕ) (field : Field) (word : ℕ) (g : Stage) → Left (fill_by t.state m r field word g)
  fill_left r Lo word g = record { stage = put_there t.stage m (filled r g) q ne; announced = refl; found = refl; ends = λ r own. refl; walk = refl }
  fill_left r Base word g = record { stage = put_there t.stage m (filled r g) q ne; announced = refl; found = refl; ends = λ r own. refl; walk = refl }
  fill_left r Prev word g = record { stage = put_there t.stage m (filled r g) q ne; announced = refl; found = refl; ends = λ r own. refl; walk = refl }

  point_left : (g : Stage) → Left (point_by t.state m g)
  point_left (Filled at hi b r) = record { stage = put_there t.stage m (Pointed at hi b r) q ne; announced = refl; found = refl; ends = λ r own. refl; walk = refl }
  point_left _ = as_it_is

  peek_left : (g : Stage) → Left (peek_by t.state m g)
  peek_left (At at r) = stage_left (peeked at r (t.lo r))
  peek_left (Over at r) = stage_left (At at (t.prev r - 1))
  peek_left (Hit at r lo) = stage_left (Got (t.base r) (at - lo))
  peek_left _ = as_it_is

  publish_left : (g : Stage) → ((at hi b r : ℕ) → g ≡ Pointed at hi b r → r / rows ≡ m) → Left (publish_by t.state m g)
  publish_left (Pointed at hi b r) owns = record {
    stage = put_there t.stage m (Got b 0) q ne;
    announced = refl;
    found = refl;
    ends = λ x own. put_there t.end r hi x (λ e. ne (sym own ∙ ap (λ (y : ℕ). y / rows) e ∙ owns at hi b r refl));
    walk = refl;
  }
  publish_left _ owns = as_it_is

  -- what the step adds to the books is not the other's
  head_walk : (g : Stage) → (head_noted t.state t.books m g).walk q ≡ t.walk q
  head_walk (Late at) = put_there t.walk m ((t.last - 1) ∷ []) q ne
  head_walk _ = refl

  point_walk : (g : Stage) → (point_noted t.state t.books g).walk q ≡ t.walk q
  point_walk (Filled at hi b r) = refl
  point_walk _ = refl

  publish_walk : (g : Stage) → (publish_noted t.state t.books g).walk q ≡ t.walk q
  publish_walk (Pointed at hi b r) = refl
  publish_walk _ = refl

  peek_walk : (g : Stage) → (peek_noted t.state t.books m g).walk q ≡ t.walk q
  peek_walk (Over at r) = put_there t.walk m ((t.prev r - 1) ∷ t.walk m) q ne
  peek_walk _ = refl

-- each local step, where whoever publishes a row owns it
left_by : (rows : ℕ) (t : Traced) (step : local_step.Step) (q : ℕ) → q ≢ member_of step → ((at hi b r : ℕ) → t.stage (member_of step) ≡ Pointed at hi b r → r / rows ≡ member_of step) → IsUntouched rows t (traced t step) q
left_by rows t (local_step.Scan m other) q ne owns = record { stage = refl; announced = refl; found = put_there t.found m (put (t.found m) other (Some (t.announced other))) q ne; ends = λ r own. refl; walk = refl }
left_by rows t (local_step.See m) q ne owns = let h = stage_left rows t q m ne (Saw t.done) in record { stage = h.stage; announced = refl; found = refl; ends = λ r own. refl; walk = refl }
left_by rows t (local_step.Announce m) q ne owns = let h = announce_left rows t q m ne (t.stage m) in record { stage = h.stage; announced = h.announced; found = h.found; ends = h.ends; walk = refl }
left_by rows t (local_step.Arrive m weight) q ne owns = record { stage = put_there t.stage m (Waiting t.total) q ne; announced = refl; found = refl; ends = λ r own. refl; walk = refl }
left_by rows t (local_step.Look m) q ne owns = let h = look_left rows t q m ne (t.stage m) in record { stage = h.stage; announced = h.announced; found = h.found; ends = h.ends; walk = refl }
left_by rows t (local_step.Close m) q ne owns = let h = close_left rows t q m ne (t.stage m) in record { stage = h.stage; announced = h.announced; found = h.found; ends = h.ends; walk = refl }
left_by rows t (local_step.Hand_base m b) q ne owns = let h = hand_left rows t q m ne b (t.stage m) in record { stage = h.stage; announced = h.announced; found = h.found; ends = h.ends; walk = refl }
left_by rows t (local_step.Head m) q ne owns = let h = head_left rows t q m ne (t.stage m) in record { stage = h.stage; announced = h.announced; found = h.found; ends = h.ends; walk = head_walk rows t q m ne (t.stage m) }
left_by rows t (local_step.Fill m r field word) q ne owns = let h = fill_left rows t q m ne r field word (t.stage m) in record { stage = h.stage; announced = h.announced; found = h.found; ends = h.ends; walk = refl }
left_by rows t (local_step.Point m) q ne owns = let h = point_left rows t q m ne (t.stage m) in record { stage = h.stage; announced = h.announced; found = h.found; ends = h.ends; walk = point_walk rows t q m ne (t.stage m) }
left_by rows t (local_step.Publish m) q ne owns = let h = publish_left rows t q m ne (t.stage m) owns in record { stage = h.stage; announced = h.announced; found = h.found; ends = h.ends; walk = publish_walk rows t q m ne (t.stage m) }
left_by rows t (local_step.Peek m) q ne owns = let h = peek_left rows t q m ne (t.stage m) in record { stage = h.stage; announced = h.announced; found = h.found; ends = h.ends; walk = peek_walk rows t q m ne (t.stage m) }
left_by rows t (local_step.Leave m) q ne owns = record { stage = put_there t.stage m Out q ne; announced = put_there t.announced m 0 q ne; found = put_there t.found m (λ other. None) q ne; ends = λ r own. refl; walk = refl }

module _ (start : Start) (ok : IsShape start.shape) where
  -- a step at one aggregator leaves the places of other passes as they are
  local_left : (s : State) (kind : Kind) (below p : ℕ) (step : ℕ → local_step.Step) → member_of (step (member start.shape (suc below) p)) ≡ member start.shape (suc below) p
      → ((at hi b r : ℕ) → stage start s kind (suc below) p ≡ Pointed at hi b r → r / start.shape.rows ≡ member start.shape (suc below) p)
      → (q : ℕ) → q ≢ p → (k : Kind) (l : ℕ) → IsUntouched start.shape.rows (place start s k l q) (place start (local start s kind (suc below) p step) k l q) (member start.shape l q)
  local_left s kind below p step own owns q ne k l =
      let index : ℕ = aggregator start.shape p (suc below) in
      let m : ℕ = member start.shape (suc below) p in
      let t : Traced = s.rows kind (suc below) index in
      let next : Traced = traced t (step m) in
      elim (same_place k kind l (suc below) (aggregator start.shape q l) index) [
        | inr not ↦ subst (λ (x : Bool). IsUntouched start.shape.rows (place start s k l q) (cond x next (s.rows k l (aggregator start.shape q l))) (member start.shape l q)) (sym not) (same_untouched start.shape.rows (place start s k l q) (member start.shape l q))
        | inl is ↦
            let same : aggregator start.shape q (suc below) ≡ index = ap (aggregator start.shape q) (sym is.1) ∙ is.2 in
            let apart : member start.shape l q ≢ m = λ e. ne (member_apart start.shape ok below q p same (ap (λ (x : ℕ). member start.shape x q) (sym is.1) ∙ e)) in
            let here : IsUntouched start.shape.rows t next (member start.shape l q) = left_by start.shape.rows t (step m) (member start.shape l q) (λ e. apart (e ∙ own)) (λ at hi b r e. owns at hi b r (ap t.stage (sym own) ∙ e) ∙ sym own) in
            let old : t ≡ s.rows k l (aggregator start.shape q l) = ap (λ (x : Kind). s.rows x (suc below) index) (sym is.0) ∙ ap (λ (x : ℕ). s.rows k x index) (sym is.1) ∙ ap (λ (x : ℕ). s.rows k l x) (sym is.2) in
            subst (λ (x : Bool). IsUntouched start.shape.rows (place start s k l q) (cond x next (s.rows k l (aggregator start.shape q l))) (member start.shape l q)) (sym is.3)
            (subst (λ (x : Traced). IsUntouched start.shape.rows x next (member start.shape l q)) old here)
      ]

alone_either : (start : Start) (s : State) (q : ℕ) (test : Bool) (x y : State) → IsLeftAlone start s x q → IsLeftAlone start s y q → IsLeftAlone start s (if test then x else y) q
alone_either start s q true x y a b = a
alone_either start s q false x y a b = b

module _ (start : Start) (ok : IsStart start) (s : State) (w : Whole start s) (p : ℕ) (range : p < start.shape.passes) (q : ℕ) (ne : q ≢ p) where
  nowhere : {A : Type 0} (kind : Kind) → (s.callers p).position ≡ Climbing kind 0 → A
  nowhere kind is = absurd (not_below start ok s w p range kind is)

  -- whoever has pointed to a row owns it
  owns : (kind : Kind) (below : ℕ) (at hi b r : ℕ) → stage start s kind (suc below) p ≡ Pointed at hi b r → r / start.shape.rows ≡ member start.shape (suc below) p
  owns kind below at hi b r e =
      let t : Traced = s.rows kind (suc below) (aggregator start.shape p (suc below)) in
      let m : ℕ = member start.shape (suc below) p in
      let known : Leading t t.total (IsOurs start.shape.rows t m) (Pointed at hi b r) = subst (Leading t t.total (IsOurs start.shape.rows t m)) e ((w.good.inv kind (suc below) (aggregator start.shape p (suc below))).leading m) in
      known.1.0

  one : (kind : Kind) (below : ℕ) (step : ℕ → local_step.Step) → member_of (step (member start.shape (suc below) p)) ≡ member start.shape (suc below) p → (k : Kind) (l : ℕ) → IsUntouched start.shape.rows (place start s k l q) (place start (local start s kind (suc below) p step) k l q) (member start.shape l q)
  one kind below step own k l = local_left start ok.shape s kind below p step own (owns kind below) q ne k l

  -- a step of a call that climbs
  climbs_alone : (kind : Kind) (level : ℕ) (step : ℕ → local_step.Step) → ((m : ℕ) → member_of (step m) ≡ m) → (s.callers p).position ≡ Climbing kind level → IsLeftAlone start s (local start s kind level p step) q
  climbs_alone kind zero step own is = nowhere kind is
  climbs_alone kind (suc below) step own is = record { caller = refl; places = one kind below step (own (member start.shape (suc below) p)) }

  applies_alone : (kind : Kind) (level amount : ℕ) → 1 ≤ level → IsLeftAlone start s (applies start s p kind level amount) q
  applies_alone kind zero amount low = absurd (omega arith)
  applies_alone kind (suc below) amount low = record { caller = refl; places = λ k l. one kind below (λ m. local_step.Hand_base m s.main) refl k l }

  goes_alone : (x : State) (position : Position) → IsLeftAlone start s x q → IsLeftAlone start s (goes_to x p position) q
  goes_alone x position a = record { caller = put_there x.callers p (record (x.callers p) { position = position }) q ne ∙ a.caller; places = a.places }

  same_alone : IsLeftAlone start s s q
  same_alone = record { caller = refl; places = λ k l. same_untouched start.shape.rows (place start s k l q) (member start.shape l q) }

  makes_alone : (kind : Kind) (amount : ℕ) → IsLeftAlone start s (makes start s p kind amount) q
  makes_alone kind amount = record { caller = put_there s.callers p (after_call (s.callers p) (next_call s p kind amount)) q ne; places = λ k l. same_untouched start.shape.rows (place start s k l q) (member start.shape l q) }

  leaves_alone : (kind : Kind) (level : ℕ) → Climbs start s p kind level (λ m. local_step.Leave m) → IsLeftAlone start s (leaves start s p kind level) q
  leaves_alone kind zero may = nowhere kind may.0
  leaves_alone kind (suc zero) may = goes_alone (local start s kind 1 p (λ m. local_step.Leave m)) Resting (climbs_alone kind 1 (λ m. local_step.Leave m) (λ m. refl) may.0)
  leaves_alone kind (suc (suc below)) may =
      let middle : State = local start s kind (suc (suc below)) p (λ m. local_step.Leave m) in
      record {
        caller = put_there s.callers p (record (s.callers p) { position = Climbing kind (suc below) }) q ne;
        places = λ k l. then_untouched start.shape.rows (place start s k l q) (place start middle k l q) (place start (leaves start s p kind (suc (suc below))) k l q) (member start.shape l q)
            (one kind (suc below) (λ m. local_step.Leave m) refl k l)
            (local_left start ok.shape middle kind below p (λ m. local_step.Hand_base m (reply_of start.cap kind (stage start s kind (suc (suc below)) p))) refl
            (λ at hi b r e. owns kind below at hi b r (sym (middle_there start ok s w p range kind below may kind (suc below) p (λ x y z. omega (arith, y))) ∙ e)) q ne k l);
      }

  pub moves_alone : (step : Move) → May start s p step → IsLeftAlone start s (moves start s p step) q
  moves_alone (Scan kind zero other) may = absurd (omega (arith, may.2))
  moves_alone (Scan kind (suc below) other) may = record { caller = refl; places = one kind below (λ m. local_step.Scan m (member start.shape (suc below) other)) refl }
  moves_alone (See kind zero) may = absurd may
  moves_alone (See kind (suc zero)) may = record { caller = put_there s.callers p (record (s.callers p) { position = Climbing kind 1 }) q ne; places = one kind 0 (λ m. local_step.See m) refl }
  moves_alone (See kind (suc (suc below))) may = record { caller = put_there s.callers p (record (s.callers p) { position = Climbing kind (suc (suc below)) }) q ne; places = one kind (suc below) (λ m. local_step.See m) refl }
  moves_alone (Announce kind level) may = climbs_alone kind level (λ m. local_step.Announce m) (λ m. refl) may.0
  moves_alone (Arrive kind zero weight) may = absurd may.1
  moves_alone (Arrive kind (suc zero) weight) may = record { caller = put_there s.callers p (after_call (s.callers p) (next_call s p kind weight)) q ne; places = one kind 0 (λ m. local_step.Arrive m weight) refl }
  moves_alone (Arrive kind (suc (suc below)) weight) may = record { caller = refl; places = one kind (suc below) (λ m. local_step.Arrive m weight) refl }
  moves_alone (Look kind level) may = climbs_alone kind level (λ m. local_step.Look m) (λ m. refl) may.0
  moves_alone (Close kind level) may = climbs_alone kind level (λ m. local_step.Close m) (λ m. refl) may.0
  moves_alone (Apply weight) may = subst (λ (x : Position). IsLeftAlone start s (applied_by start s p weight x) q) (sym may.1)
      (let up : IsClimbing start.shape.levels (stages_of start s p) kinds.Add may.0 = climbing start ok s w p kinds.Add may.0 may.1 in applies_alone kinds.Add may.0 weight up.low)
  moves_alone (Head kind level) may = climbs_alone kind level (λ m. local_step.Head m) (λ m. refl) may.0
  moves_alone (Fill row field) may = subst (λ (x : Position). IsLeftAlone start s (filled_by start s p row field x) q) (sym may.3.0) (climbs_alone may.0 may.1 (fills start s may.0 may.1 p row field) (λ m. refl) may.3.0)
  moves_alone (Point kind level row) may = climbs_alone kind level (λ m. local_step.Point m) (λ m. refl) may.0.0
  moves_alone (Publish kind level) may = climbs_alone kind level (λ m. local_step.Publish m) (λ m. refl) may.0
  moves_alone (Peek row field) may = subst (λ (x : Position). IsLeftAlone start s (peeked_by start s p x) q) (sym may.2.0) (climbs_alone may.0 may.1 (λ m. local_step.Peek m) (λ m. refl) may.2.0)
  moves_alone (Leave kind level) may = leaves_alone kind level may
  moves_alone (Load purpose.Try) (inl is) = subst (λ (x : Position). IsLeftAlone start s (loaded_by s p x) q) (sym is) (goes_alone s (Trying s.main) same_alone)
  moves_alone (Load purpose.Try) (inr may) = subst (λ (x : Position). IsLeftAlone start s (loaded_by s p x) q) (sym may.2) (goes_alone s (Deciding may.0 may.1 s.main) same_alone)
  moves_alone (Load purpose.Read) may = makes_alone kinds.Read 0
  moves_alone (Exchange kind amount) (inl may) = subst (λ (x : Position). IsLeftAlone start s (exchanged_by start s p kind amount x) q) (sym may.1)
      (alone_either start s q (s.main == may.0) (goes_to (makes start s p kind amount) p Resting) (goes_to s p Resting) (goes_alone (makes start s p kind amount) Resting (makes_alone kind amount)) (goes_alone s Resting same_alone))
  moves_alone (Exchange kind amount) (inr may) = subst (λ (x : Position). IsLeftAlone start s (exchanged_by start s p kind amount x) q) (sym may.2)
      (let fit : FitsAt start s p (Deciding kind may.0 may.1) = subst (FitsAt start s p) may.2 (w.fits p) in
      let up : IsClimbing start.shape.levels (stages_of start s p) kind may.0 = fit.0 in
      alone_either start s q (s.main == may.1) (goes_to (applies start s p kind may.0 amount) p (Climbing kind may.0)) (goes_to s p (Climbing kind may.0))
      (goes_alone (applies start s p kind may.0 amount) (Climbing kind may.0) (applies_alone kind may.0 amount up.low)) (goes_alone s (Climbing kind may.0) same_alone))
  moves_alone (Direct amount) may = makes_alone kinds.Add amount
  moves_alone Glance may = same_alone

pub events_are_local : EventsAreLocal
events_are_local start log ok legal event allowed other ne =
    let s : State = run start log (opened start) in
    let both = log_counted start ok log (opened start) (opened_whole start ok) (opened_counted start) legal in
    moves_alone start ok s both.0 event.pass allowed.0 other ne event.step allowed.1
