-- What the fields of a machine in code say of a state.
--     Mirrors machine s      the fields are those of the state
--     Stands machine log      the machine has taken these events from its start
--     answer_of start s pass step      what the step finds, or how its exchange ends
--     MayTake machine pass step, Takes old new pass step answer      what a step needs of the machine, and what it does
use Rattle.std.specs.Prelude.{◌≡◌, ◌≢◌, ℕ, Option, None, ◌<◌, ◌==◌, List, Some, slice_get, if◌then◌else◌}
use Rattle.fn_model.specs.declared.Kind.{Kind}
use Rattle.fn_rows.specs.Aggregator.{Aggregator, state_of}
use Rattle.fn_rows.specs.declared.Stage.{Stage}
use Rattle.fn_rows.specs.Trace.{Traced}
use Rattle.fn_layout.specs.declared.shape.Shape.{Shape}
use Rattle.fn_layout.specs.Tree.{members}
use Rattle.fn_layout.specs.Words.{IsAggregator, aggregator_number}
use Rattle.fn_core.specs.declared.Event.{Event}
use Rattle.fn_core.specs.declared.Move.{Move}
use Rattle.fn_core.specs.declared.Move.TheVariants.{Announce, Fill, Point, Publish, Leave, Exchange}
use Rattle.fn_core.specs.declared.answer.Answer.{Answer}
use Rattle.fn_core.specs.declared.answer.Answer.TheVariants.{Word, Stored, Won, Lost}
use Rattle.fn_core.specs.declared.machine.Machine.{Machine}
use Rattle.fn_core.specs.declared.machine.Standing.{Standing}
use Rattle.fn_core.specs.State.{Start, Position, Trying, Climbing, Deciding, State, Caller, stage, opened}
use Rattle.fn_core.specs.Machine.{IsStart, Allowed, Legal, run, moves}
use Rattle.fn_core.specs.Laws.{IsUnderway}
use Rattle.fn_core.specs.Words.{name_of, word}

-- how an exchange ends that finds this word
abbrev pub exchange_answer : ℕ → Position → Answer
exchange_answer found (Trying loaded) = if found == loaded then Won else Lost loaded found
exchange_answer found (Deciding kind level loaded) = if found == loaded then Won else Lost loaded found
exchange_answer found _ = Won

-- what a step answers: nothing for a store, how it ended for an exchange, and for all others the word that it found
abbrev pub answer_of : Start → State → ℕ → Move → Answer
answer_of start s pass (Announce kind level) = Stored
answer_of start s pass (Fill row field) = Stored
answer_of start s pass (Point kind level row) = Stored
answer_of start s pass (Publish kind level) = Stored
answer_of start s pass (Leave kind level) = Stored
answer_of start s pass (Exchange kind amount) = exchange_answer s.main (s.callers pass).position
answer_of start s pass step = Word (word start s (name_of start.shape pass step))

-- an aggregator's value is this state of the aggregator of a level with this index
pub record IsPlace (shape : Shape) (level index : ℕ) (t : Traced) (a : Aggregator) : Type 0 where
  pub members_are : a.members ≡ members shape level index
  pub rows_are : a.rows ≡ shape.rows
  pub state_is : state_of a ≡ t.state

-- the aggregators, by number, are these
abbrev pub ArePlaces : Shape → List Aggregator → (Kind → ℕ → ℕ → Traced) → Type 0
ArePlaces shape places rows =
    (kind : Kind) (level index : ℕ) → IsAggregator shape kind level index
    → (a : Aggregator) × (slice_get places (aggregator_number shape kind level index) ≡ Some a) × IsPlace shape level index (rows kind level index) a

-- where a pass stands, of what is known of it
abbrev pub standing_of : Caller → Standing
standing_of caller = record { position = caller.position; left = caller.left }

-- the passes, by number, stand so
abbrev pub AreStandings : Shape → List Standing → (ℕ → Caller) → Type 0
AreStandings shape standings callers = (pass : ℕ) → pass < shape.passes → slice_get standings pass ≡ Some (standing_of (callers pass))

-- the fields are those of the state
pub record Mirrors (m : Machine) (s : State) : Type 0 where
  pub main_is : m.main ≡ s.main
  pub places : ArePlaces m.start.shape m.rows.items s.rows
  pub standings : AreStandings m.start.shape m.standings.items s.callers

-- the machine has taken these events from its start
pub record Stands (m : Machine) (log : List Event) : Type 0 where
  pub start_ok : IsStart m.start
  pub legal : Legal m.start log (opened m.start)
  pub fields : Mirrors m (run m.start log (opened m.start))

-- the pass may take the step after these events
abbrev pub May : Machine → List Event → ℕ → Move → Type 0
May m log pass step = Allowed m.start (run m.start log (opened m.start)) (record { pass = pass; step = step })

-- the pass may take the step
abbrev pub MayTake : Machine → ℕ → Move → Type 0
MayTake m pass step = (log : List Event) × Stands m log × May m log pass step

-- the step leads from each state that the fields stand for to the state after it, and its answer is the one there
abbrev pub Takes : Machine → Machine → ℕ → Move → Answer → Type 0
Takes old new pass step answer = (log : List Event) → Stands old log → May old log pass step
    → Mirrors new (moves old.start (run old.start log (opened old.start)) pass step) × (answer ≡ answer_of old.start (run old.start log (opened old.start)) pass step)

-- the machine has taken a legal log
abbrev pub HasTaken : Machine → Type 0
HasTaken m = (log : List Event) × Stands m log

-- .. after which the pass's call is underway
abbrev pub IsUnderwayIn : Machine → ℕ → Type 0
IsUnderwayIn m pass = (log : List Event) × Stands m log × (pass < m.start.shape.passes) × IsUnderway m.start (run m.start log (opened m.start)) pass

-- the pass stands in this position
abbrev pub StandsAt : Machine → ℕ → Position → Type 0
StandsAt m pass position = (left : ℕ) × (slice_get m.standings.items pass ≡ Some (record { position = position; left = left }))

-- where a pass stands that has loaded this word for a try
abbrev pub tried : Position → ℕ → Position
tried (Climbing kind level) word = Deciding kind level word
tried _ word = Trying word

-- it holds of each state that the fields stand for
abbrev pub InEach : Machine → (State → Type 0) → Type 0
InEach m Holds = (log : List Event) → Stands m log → Holds (run m.start log (opened m.start))

-- the pass's call has climbed to this level, after a legal log that the machine has taken
abbrev pub ClimbsIn : Machine → ℕ → Kind → ℕ → Type 0
ClimbsIn m pass kind level = HasTaken m × (pass < m.start.shape.passes) × StandsAt m pass (Climbing kind level)

-- where the pass's call stands that has climbed to this level, or none
abbrev pub IsHeld : Start → State → ℕ → Kind → ℕ → Option Stage → Type 0
IsHeld start s pass kind level None = (s.callers pass).position ≢ Climbing kind level
IsHeld start s pass kind level (Some held) = ((s.callers pass).position ≡ Climbing kind level) × (stage start s kind level pass ≡ held)
