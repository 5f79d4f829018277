-- The steps of a call's beginning may be taken, and where each level has an open row the call waits at its leaf then.
use Rattle.std.proofs.Common.{◌≡◌, inl, ℕ, ◌+◌, ◌*◌, ◌<◌, ◌≤◌, true, List, [], ◌++◌, Option, Some, None, is_none, refl, sym, ◌∙◌, ap, subst, arith}
use Rattle.std.specs.Prelude.{if◌then◌else◌, ◌==◌}
use Rattle.std.specs.List.{range_with_len, find}
use Rattle.std.proofs.lemmas.List.{map-append}
use Rattle.std.proofs.lemmas.Nat.{div-mul-add}
use Rattle.fn_model.specs.declared.Kind.{Kind}
use Rattle.fn_rows.specs.Machine as local_step
use Rattle.fn_rows.specs.Machine.{put, announce_by}
use Rattle.fn_rows.specs.Trace.{Traced, traced}
use Rattle.fn_rows.specs.declared.Stage.{Stage}
use Rattle.fn_rows.specs.declared.Stage.TheVariants.{Saw, Told, Waiting}
use Rattle.fn_rows.proofs.Put.{put_here}
use Rattle.fn_core.specs.declared.Event.{Event}
use Rattle.fn_core.specs.declared.Move.{Move}
use Rattle.fn_core.specs.declared.Move.TheVariants.{See, Announce, Arrive}
use Rattle.fn_core.specs.Tree.{aggregator, member}
use Rattle.fn_core.specs.State.{Start, Resting, Climbing, Caller, State, stage, after_call, next_call}
use Rattle.fn_core.specs.Machine.{IsChange, MaySpend, HasFreeRow, place, moves, Legal, run}
use Rattle.fn_core.specs.Begin.{is_open, has_open, is_full, full_level, scans, first_steps, begin_moves, events_of, others, blocks, row_end}
use Rattle.fn_core.specs.Order.{is_free}
use Rattle.fn_core.proofs.Places.{put_at_here, put_at_case}
use Rattle.fn_core.proofs.FirstFree.{is_free_means}
use Rattle.fn_core.proofs.Among.{Has, found_is, all_reached, has_range, from_range, none_found}
use Rattle.fn_core.proofs.Tries.{any_found, some_found, not_false}
use Rattle.fn_core.proofs.Beginning.{Still, still_same, scans_happen, scans_know, scans_are, scanned_other, other_is}
use Rattle.fn_core.proofs.Opens.{levels_tried, KnowsAll, scan_among, tried_same}
use Rattle.fn_core.proofs.Pushed.{run_append, legal_append}

-- a call's first three steps at its leaf
module _ (start : Start) (s : State) (pass : ℕ) (range : pass < start.shape.passes) (kind : Kind) (change : IsChange kind) (amount : ℕ) where
  abbrev m : ℕ
  m = member start.shape 1 pass

  abbrev index : ℕ
  index = aggregator start.shape pass 1

  abbrev saw : State
  saw = moves start s pass (See kind 1)

  abbrev told : State
  told = moves start saw pass (Announce kind 1)

  -- .. and where it stands then
  abbrev pub arrived : State
  arrived = moves start told pass (Arrive kind 1 amount)

  abbrev seen : ℕ
  seen = (place start s kind 1 pass).done

  caller_climbs : told.callers pass ≡ record (s.callers pass) { position = Climbing kind 1 }
  caller_climbs = put_here s.callers pass (record (s.callers pass) { position = Climbing kind 1 }) pass refl

  stage_saw : stage start saw kind 1 pass ≡ Saw seen
  stage_saw =
      let t : Traced = place start s kind 1 pass in
      ap (λ (x : Traced). x.stage m) (put_at_here s.rows kind 1 index (traced t (local_step.See m))) ∙ put_here t.stage m (Saw seen) m refl

  stage_told : stage start told kind 1 pass ≡ Told seen
  stage_told =
      let t : Traced = place start saw kind 1 pass in
      ap (λ (x : Traced). x.stage m) (put_at_here saw.rows kind 1 index (traced t (local_step.Announce m)))
      ∙ subst (λ (g : Stage). (announce_by t.state m g).stage m ≡ Told seen) (sym stage_saw) (put_here t.stage m (Told seen) m refl)

  pub stage_waits : stage start arrived kind 1 pass ≡ Waiting (place start told kind 1 pass).total
  stage_waits =
      let t : Traced = place start told kind 1 pass in
      ap (λ (x : Traced). x.stage m) (put_at_here told.rows kind 1 index (traced t (local_step.Arrive m amount))) ∙ put_here t.stage m (Waiting t.total) m refl

  pub caller_arrived : arrived.callers pass ≡ after_call (record (s.callers pass) { position = Climbing kind 1 }) (next_call s pass kind amount)
  caller_arrived =
      put_here told.callers pass (after_call (told.callers pass) (next_call told pass kind amount)) pass refl
      ∙ ap (λ (c : Caller). after_call c (record { pass = pass; number = c.made; kind = kind; amount = amount })) caller_climbs

  -- the rows' ends, and what was found of the others, stay
  pub arrived_same : (k : Kind) (l i : ℕ) → ((arrived.rows k l i).end ≡ (s.rows k l i).end) × ((arrived.rows k l i).found ≡ (s.rows k l i).found)
  arrived_same k l i =
      let t : Traced = place start saw kind 1 pass in
      let a = put_at_case (λ k l i x. (x.end ≡ (s.rows k l i).end) × (x.found ≡ (s.rows k l i).found)) s.rows kind 1 index (traced (place start s kind 1 pass) (local_step.See m)) (refl, refl) k l i (refl, refl) in
      let b = put_at_case (λ k l i x. (x.end ≡ (saw.rows k l i).end) × (x.found ≡ (saw.rows k l i).found)) saw.rows kind 1 index (traced t (local_step.Announce m))
      (subst (λ (g : Stage). ((announce_by t.state m g).end ≡ t.end) × ((announce_by t.state m g).found ≡ t.found)) (sym stage_saw) (refl, refl)) k l i (refl, refl) in
      let c = put_at_case (λ k l i x. (x.end ≡ (told.rows k l i).end) × (x.found ≡ (told.rows k l i).found)) told.rows kind 1 index (traced (place start told kind 1 pass) (local_step.Arrive m amount)) (refl, refl) k l i (refl, refl) in
      (c.0 ∙ b.0 ∙ a.0, c.1 ∙ b.1 ∙ a.1)

  pub first_steps_happen : (s.callers pass).position ≡ Resting → MaySpend s pass amount → ((level : ℕ) → 1 ≤ level → level ≤ start.shape.levels → HasFreeRow start s kind level pass) → Legal start (events_of pass (first_steps kind amount)) s
  first_steps_happen rests spend free =
      let position : (told.callers pass).position ≡ Climbing kind 1 = ap (λ (c : Caller). c.position) caller_climbs in (
        (range, (rests, change, free)),
        ((range, (position, (seen, stage_saw))), ((range, ((position, (seen, stage_told, spend.0)), (spend.0, subst (λ (c : Caller). amount ≤ c.left) (sym caller_climbs) spend.1))), tt)),
      )

-- the whole beginning
module _ (start : Start) (s : State) (pass : ℕ) (range : pass < start.shape.passes) (kind : Kind) (change : IsChange kind) (amount : ℕ) (rests : (s.callers pass).position ≡ Resting) where
  -- the state after the scans
  abbrev pub looked : State
  looked = run start (events_of pass (scans start s kind pass)) s

  scans_taken : Legal start (events_of pass (scans start s kind pass)) s × Still s looked
  scans_taken = scans_happen start pass kind range change (scans start s kind pass) (scans_are start pass kind s) s rests

  pub still_looked : Still s looked
  still_looked = scans_taken.1

  pub looked_ends : (level : ℕ) → (place start looked kind level pass).end ≡ (place start s kind level pass).end
  looked_ends level = still_looked.ends kind level (aggregator start.shape pass level)

  pub looked_knows : KnowsAll start pass kind s looked
  looked_knows level n q at_level at_row has =
      let end : ℕ = row_end start s kind level pass n in
      let other = other_is start pass kind level q (scanned_other start pass kind (others start.shape level pass) (blocks start s kind level end) (end == 0) q has) in
      scans_know start pass kind (scans start s kind pass) (scans_are start pass kind s) s s (still_same s) level q other.2 (inl (scan_among start pass kind s level n q at_level at_row has))

  module _ (none : full_level start s kind pass ≡ None) (level : ℕ) (low : 1 ≤ level) (high : level ≤ start.shape.levels) where
    in_range : Has (range_with_len 1 start.shape.levels) level
    in_range = has_range 1 start.shape.levels level low (omega (arith, high))

    pub tried : Has (levels_tried start s kind pass) level
    tried = subst (λ (xs : List ℕ). Has xs level) (sym (all_reached (is_full start s kind pass) (range_with_len 1 start.shape.levels) none)) in_range

    pub first_open : (n : ℕ) × (find (is_open start s kind level pass) (range_with_len 0 start.shape.rows) ≡ Some n)
    first_open =
        let opens : has_open start s kind pass level ≡ true = not_false (has_open start s kind pass level) (none_found (is_full start s kind pass) (range_with_len 1 start.shape.levels) level none in_range) in
        some_found (find (is_open start s kind level pass) (range_with_len 0 start.shape.rows)) (sym (any_found (is_open start s kind level pass) (range_with_len 0 start.shape.rows)) ∙ opens)

    pub has_free : HasFreeRow start looked kind level pass
    has_free =
        let n : ℕ = first_open.0 in
        let found = found_is (is_open start s kind level pass) (range_with_len 0 start.shape.rows) n first_open.1 in
        let inside = from_range 0 start.shape.rows n found.inside in
        let free : is_free start looked kind level pass n ≡ true = tried_same start pass kind s looked looked_ends looked_knows level n tried found.reached ∙ found.holds in
        (member start.shape level pass * start.shape.rows + n, div-mul-add (member start.shape level pass) start.shape.rows n (omega (arith, inside.1)), is_free_means start looked kind level pass n free)

  -- the steps after the scans, and the state that they leave
  abbrev steps_for : Option ℕ → List Move
  steps_for o = if is_none o then first_steps kind amount else []

  abbrev pub left_by : Option ℕ → State
  left_by None = arrived start looked pass range kind change amount
  left_by (Some level) = looked

  split : (steps : List Move) → events_of pass (scans start s kind pass ++ steps) ≡ events_of pass (scans start s kind pass) ++ events_of pass steps
  split steps = map-append (λ (step : Move). let event : Event = record { pass = pass; step = step } in event) (scans start s kind pass) steps

  legal_for : MaySpend s pass amount → (o : Option ℕ) → full_level start s kind pass ≡ o → Legal start (events_of pass (scans start s kind pass ++ steps_for o)) s
  legal_for spend None none =
      subst (λ (xs : List Event). Legal start xs s) (sym (split (first_steps kind amount)))
      (legal_append start (events_of pass (scans start s kind pass)) (events_of pass (first_steps kind amount)) s scans_taken.0
      (first_steps_happen start looked pass range kind change amount (ap (λ (f : ℕ → Caller). (f pass).position) still_looked.callers ∙ rests) (spend.0, subst (λ (f : ℕ → Caller). amount ≤ (f pass).left) (sym still_looked.callers) spend.1) (has_free none)))
  legal_for spend (Some level) is = subst (λ (xs : List Event). Legal start xs s) (sym (split [])) (legal_append start (events_of pass (scans start s kind pass)) [] s scans_taken.0 tt)

  -- a beginning may happen
  pub begin_happens : MaySpend s pass amount → Legal start (events_of pass (begin_moves start s pass kind amount)) s
  begin_happens spend = legal_for spend (full_level start s kind pass) refl

  run_for : (o : Option ℕ) → run start (events_of pass (scans start s kind pass ++ steps_for o)) s ≡ left_by o
  run_for None = ap (λ (xs : List Event). run start xs s) (split (first_steps kind amount)) ∙ run_append start (events_of pass (scans start s kind pass)) (events_of pass (first_steps kind amount)) s
  run_for (Some level) = ap (λ (xs : List Event). run start xs s) (split []) ∙ run_append start (events_of pass (scans start s kind pass)) [] s

  -- .. and leaves this state
  pub begin_leaves : run start (events_of pass (begin_moves start s pass kind amount)) s ≡ left_by (full_level start s kind pass)
  begin_leaves = run_for (full_level start s kind pass)
