-- How the calls of a caller came to what they tell.
--     ChangeWay old kind amount result new      of an addition or a subtraction past the aggregators
--     BeginWay, PollWay old .. result new      of a beginning and of a poll
use Rattle.std.specs.Prelude.{◌≢◌, ℕ, ⊤, Result, Ok, Err}
use Rattle.fn_model.specs.declared.Kind.{Kind}
use Rattle.fn_core.specs.declared.answer.Blocked.{Blocked}
use Rattle.fn_core.specs.declared.answer.Why.{Why}
use Rattle.fn_core.specs.declared.answer.CoreStep.TheVariants.{Ready}
use Rattle.fn_table.specs.Seen.{PassView}
use Rattle.fn_climb.specs.Begin.{BeginAnswers}
use Rattle.fn_climb.specs.Turns.{Polled, PolledInVain}
use Rattle.fn_climb.specs.declared.beginning.Begun.TheVariants as climb
use Rattle.fn_direct.specs.declared.Lost.{Lost}
use Rattle.fn_table.specs.Called.{HasCalled, HasMadeNone}
use Rattle.fn_direct.specs.Tries.{Tried}
use Rattle.fn_callers.specs.declared.caller.Reason.{Reason}
use Rattle.fn_callers.specs.declared.caller.Reason.TheVariants as why
use Rattle.fn_callers.specs.Callers.{CallerView, pending_of}

-- a try that lost: its exchange found another word than its load
abbrev pub HasLost : PassView → Kind → ℕ → PassView → Type 0
HasLost p kind amount q = (lost : Lost) × Tried p kind amount lost.loaded lost.found q × (lost.found ≢ lost.loaded) × HasMadeNone p q

-- an addition or a subtraction past the aggregators
abbrev pub ChangeWay : CallerView → Kind → ℕ → Result ℕ Reason → CallerView → Type 0
ChangeWay old kind amount (Ok before) new = HasCalled old.pass kind amount before new.pass
ChangeWay old kind amount (Err why.Lost) new = HasLost old.pass kind amount new.pass
ChangeWay old kind amount (Err _) new = ⊤

-- the beginning of a call: it arrived at its leaf, or each row of some level was blocked, the last by a load
abbrev pub BeginWay : CallerView → Kind → ℕ → Result (Unit {0}) Reason → CallerView → Type 0
BeginWay old kind amount (Ok _) new = BeginAnswers old.pass kind amount (climb.Waiting (pending_of new))
BeginWay old kind amount (Err why.NoRow) new = (at : Blocked) × BeginAnswers old.pass kind amount (climb.NoRow new.pass at)
BeginWay old kind amount (Err _) new = ⊤

-- a poll: it took the steps of exactly one poll of the call
abbrev pub PollWay : CallerView → Result ℕ Reason → CallerView → Type 0
PollWay old (Ok reply) new = Polled (pending_of old) (Ready reply) new.pass
PollWay old (Err why.NotYet) new = (reason : Why) × PolledInVain (pending_of old) reason (pending_of new)
PollWay old (Err _) new = ⊤
