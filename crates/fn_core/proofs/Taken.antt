-- A step of a pass at its aggregator, on the fields of a machine that has taken a legal log.
use Rattle.std.proofs.Common.{◌≡◌, ℕ, zero, suc, ◌<◌, List, ap, arith, slice_index_or, vec_len}
use Rattle.std.specs.Vec.{with_item}
use Rattle.fn_model.specs.declared.Kind.{Kind}
use Rattle.fn_rows.specs.Aggregator.{Aggregator, Steps}
use Rattle.fn_rows.specs.Aggregator as rows
use Rattle.fn_rows.specs.Machine.{Step, member_of}
use Rattle.fn_layout.specs.Tree.{aggregator, member}
use Rattle.fn_layout.specs.Words.{IsSlot, aggregator_number}
use Rattle.fn_core.specs.declared.Event.{Event}
use Rattle.fn_core.specs.declared.machine.Machine.{Machine}
use Rattle.fn_core.specs.declared.machine.Standing.{Standing}
use Rattle.fn_rows.specs.declared.Stage.TheVariants.{Out}
use Rattle.fn_core.specs.State.{Position, State, stage, opened, local, goes_to}
use Rattle.fn_core.specs.Machine.{MayTake, MaySee, run}
use Rattle.fn_core.specs.Fields.{Stands, Mirrors, IsPlace}
use Rattle.fn_core.proofs.Mirror.{here_within, here_read, here_may, here_takes, standing_within, standing_read, standings_after}
use Rattle.fn_core.proofs.Reached.{change_funnelled, climbs_slot, whole}
use Rattle.fn_core.proofs.Whole.{climbing}
use Rattle.fn_core.proofs.Begins.{rests_out}

-- the stretch of levels that a first See takes for granted
pub see_slot : (m : Machine) (log : List Event) (stands : Stands m log) (pass : ℕ) (inside : pass < m.start.shape.passes) (kind : Kind) (level : ℕ) → MaySee m.start (run m.start log (opened m.start)) pass kind level → IsSlot m.start.shape pass kind level
see_slot m log stands pass inside kind zero may = absurd may
see_slot m log stands pass inside kind (suc zero) may = (inside, change_funnelled kind may.1, (omega arith, omega arith))
see_slot m log stands pass inside kind (suc (suc below)) may = let lower = climbs_slot m log stands pass inside kind (suc below) may.0 in (inside, lower.1, (omega arith, may.2))

module _ (m : Machine) (log : List Event) (stands : Stands m log) (pass : ℕ) (kind : Kind) (level : ℕ) (slot : IsSlot m.start.shape pass kind level) where
  abbrev s : State
  s = run m.start log (opened m.start)

  abbrev index : ℕ
  index = aggregator m.start.shape pass level

  abbrev number : ℕ
  number = aggregator_number m.start.shape kind level index

  -- the aggregator has its place
  pub in_rows : (k : ℕ) → k ≡ number → k < vec_len m.rows
  in_rows k is = omega (arith, m.rows.ok.0, is, here_within m s stands.fields pass kind level slot)

  -- the pass may take the step there
  pub may_there : (k : ℕ) (a : Aggregator) → k ≡ number → a ≡ slice_index_or m.rows.items k a → (n : ℕ) → n ≡ member m.start.shape level pass → (step : ℕ → Step) → member_of (step n) ≡ n → MayTake m.start s kind level pass step → rows.May a (step n)
  may_there k a is read n own step stepping guard = here_may m s stands.fields pass kind level slot k a is read n own step stepping guard

  -- what stands there
  pub there : (k : ℕ) (a : Aggregator) → k ≡ number → a ≡ slice_index_or m.rows.items k a → IsPlace m.start.shape level index (s.rows kind level index) a
  there k a is read = here_read m s stands.fields pass kind level slot k a is read

  -- only the aggregator changes
  pub steps_there : (k : ℕ) (a b : Aggregator) → k ≡ number → a ≡ slice_index_or m.rows.items k a → (n : ℕ) → n ≡ member m.start.shape level pass → (step : ℕ → Step) → Steps a b (step n)
      → Mirrors (record m { rows = with_item m.rows k b }) (local m.start s kind level pass step)
  steps_there k a b is read n own step steps = record {
    main_is = stands.fields.main_is;
    places = here_takes m s stands.fields pass kind level slot k a b is read n own step steps;
    standings = stands.fields.standings;
  }

-- the pass has its place
pub in_standings : (m : Machine) (log : List Event) → Stands m log → (pass : ℕ) → pass < m.start.shape.passes → pass < vec_len m.standings
in_standings m log stands pass inside = omega (arith, m.standings.ok.0, standing_within m.start.shape m.standings.items (run m.start log (opened m.start)).callers stands.fields.standings pass inside)

-- the pass goes on to another position
pub goes_there : (m : Machine) (s : State) → Mirrors m s → (pass : ℕ) → pass < m.start.shape.passes → (t : Standing) → t ≡ slice_index_or m.standings.items pass t → (position : Position)
    → Mirrors (record m { standings = with_item m.standings pass (record t { position = position }) }) (goes_to s pass position)
goes_there m s w pass inside t read position = record {
  main_is = w.main_is;
  places = w.places;
  standings = standings_after m.start.shape m.standings.items s.callers w.standings pass inside (record t { position = position }) (record (s.callers pass) { position = position })
      (ap (λ (x : Standing). record x { position = position }) (standing_read m.start.shape m.standings.items s.callers w.standings pass inside t read));
}

-- a pass that may look at `done` for the first time stands nowhere there
pub see_out : (m : Machine) (log : List Event) (stands : Stands m log) (pass : ℕ) (inside : pass < m.start.shape.passes) (kind : Kind) (level : ℕ) → MaySee m.start (run m.start log (opened m.start)) pass kind level
    → stage m.start (run m.start log (opened m.start)) kind level pass ≡ Out
see_out m log stands pass inside kind zero may = absurd may
see_out m log stands pass inside kind (suc zero) may = rests_out m.start stands.start_ok (run m.start log (opened m.start)) (whole m log stands pass inside) pass inside may.0 kind 1
see_out m log stands pass inside kind (suc (suc below)) may = (climbing m.start stands.start_ok (run m.start log (opened m.start)) (whole m log stands pass inside) pass kind (suc below) may.0).above (suc (suc below)) (omega arith)
