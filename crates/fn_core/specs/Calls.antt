-- What the calls of a funnel do, as far as one step follows another.
--     CoreLog, state_in core      a funnel: what it opened with and its events since; the state that they leave
--     with_move core pass step      the funnel after one more step of the pass
--     open_fault opening cap allowances      why a funnel isn't opened with these numbers
--     step_answer start s pass      what the next step of the pass's call tells
--     Follows old new pass told      what holds after a step that tells this
--     left_of core pass      what a pass has left of its allowance
--     LeavesOthers old new pass      every other pass stands as before
--     own_moves cap kind amount      the steps of a call that goes to the main word by itself
use Rattle.std.specs.Prelude.{◌≡◌, ◌≢◌, ◌⊎◌, ℕ, zero, suc, ◌+◌, ◌*◌, ◌^◌, ◌<◌, ◌≤◌, List, [], ◌∷◌, ◌++◌, Option, Some, None, ◌==◌, nat_le, nat_lt, if◌then◌else◌, sum}
use Rattle.fn_model.specs.declared.Call.{Call}
use Rattle.fn_model.specs.declared.Kind.{Kind}
use Rattle.fn_model.specs.declared.Kind.TheVariants.{Add, Sub, Read}
use Rattle.fn_model.specs.Calls.{own}
use Rattle.fn_rows.specs.declared.Stage.{Stage}
use Rattle.fn_rows.specs.declared.Stage.TheVariants.{Out, Waiting}
use Rattle.fn_layout.specs.declared.shape.Shape.{Shape}
use Rattle.fn_core.specs.declared.Purpose.TheVariants as purpose
use Rattle.fn_core.specs.declared.Event.{Event}
use Rattle.fn_core.specs.declared.Move.{Move}
use Rattle.fn_core.specs.declared.Move.TheVariants.{Look, Leave, Load, Exchange, Direct}
use Rattle.fn_core.specs.declared.answer.Answer.{Answer}
use Rattle.fn_core.specs.declared.answer.Answer.TheVariants as answers
use Rattle.fn_core.specs.declared.answer.OpenFault.{OpenFault}
use Rattle.fn_core.specs.declared.answer.OpenFault.TheVariants.{TooMuch, NoMemory, AboveCap}
use Rattle.fn_core.specs.declared.answer.Why.TheVariants.{Behind, Lost}
use Rattle.fn_core.specs.declared.answer.CoreStep.{CoreStep}
use Rattle.fn_core.specs.declared.answer.CoreStep.TheVariants.{Going, Ready, NotYet}
use Rattle.fn_core.specs.State.{Start, Resting, State, opened, history_in, stage, reply_of, next_call}
use Rattle.fn_core.specs.Machine.{no_cap, IsStart, Legal, MaySpend, run}
use Rattle.fn_core.specs.Order.{next_move}
use Rattle.fn_core.specs.Bound.{steps_left}
use Rattle.fn_core.specs.Fields.{answer_of}
use Rattle.fn_core.specs.Laws.{HasReply, IsUnderway, HoldsRows}

-- a funnel: what it opened with, and its events since
pub record CoreLog : Type 0 where
  pub start : Start
  pub log : List Event

-- the state that the events leave
abbrev pub state_in : CoreLog → State
state_in core = run core.start core.log (opened core.start)

-- the calls that have entered the main word
abbrev pub calls_in : CoreLog → List Call
calls_in core = history_in core.start (state_in core)

-- the funnel may have opened so, and each event was allowed when it happened
abbrev pub IsLegal : CoreLog → Type 0
IsLegal core = IsStart core.start × Legal core.start core.log (opened core.start)

-- the funnel after one more step of the pass
abbrev pub with_move : CoreLog → ℕ → Move → CoreLog
with_move core pass step = record { start = core.start; log = core.log ++ record { pass = pass; step = step } ∷ [] }

-- .. and after several
abbrev pub with_moves : CoreLog → ℕ → List Move → CoreLog
with_moves core pass [] = core
with_moves core pass (step ∷ steps) = with_moves (with_move core pass step) pass steps

-- a funnel that has just been opened
abbrev pub newly_opened : Shape → ℕ → ℕ → List ℕ → CoreLog
newly_opened shape opening cap allowances = record { start = record { shape = shape; opening = opening; cap = cap; allowances = allowances }; log = [] }

-- why a funnel isn't opened with these numbers
abbrev pub open_fault : ℕ → ℕ → List ℕ → Option OpenFault
open_fault opening cap allowances =
    if nat_le (2 ^ 63) (opening + sum allowances) then Some (TooMuch opening (opening + sum allowances))
    else (if nat_lt cap opening then Some (AboveCap opening cap) else None)

-- the fault that is told: the one that there is, and want of memory only where there is none
abbrev pub TellsFault : Option OpenFault → OpenFault → Type 0
TellsFault fault told = (fault ≡ Some told) ⊎ ((fault ≡ None) × (told ≡ NoMemory))

-- the pass makes no call
abbrev pub IsIdle : CoreLog → ℕ → Type 0
IsIdle core pass = ((state_in core).callers pass).position ≡ Resting

-- the pass has a call that has arrived at its leaf and hasn't ended
abbrev pub HasCall : CoreLog → ℕ → Type 0
HasCall core pass = IsUnderway core.start (state_in core) pass

-- what a pass has left of its allowance
abbrev pub left_of : CoreLog → ℕ → ℕ
left_of core pass = ((state_in core).callers pass).left

-- every other pass stands as before, and a call of it that was underway still is
abbrev pub LeavesOthers : CoreLog → CoreLog → ℕ → Type 0
LeavesOthers old new pass = (q : ℕ) → q ≢ pass → ((state_in new).callers q ≡ (state_in old).callers q) × (HasCall old q → HasCall new q)

-- where the pass stands as it looks or leaves
abbrev pub stage_for : Start → State → ℕ → Move → Stage
stage_for start s pass (Look kind level) = stage start s kind level pass
stage_for start s pass (Leave kind level) = stage start s kind level pass
stage_for start s pass _ = Out

-- what a look tells, by where the pass stood and by what it found in `done`
abbrev pub look_told : Stage → Answer → CoreStep
look_told (Waiting at) (answers.Word done) = if nat_lt done at then NotYet (Behind done at) else Going
look_told _ _ = Going

-- what an exchange tells, by how it ended
abbrev pub exchange_told : Answer → CoreStep
exchange_told (answers.Lost word found) = NotYet (Lost word found)
exchange_told _ = Going

-- what a step tells, by where the pass stood and by the step's answer
abbrev pub told_by : ℕ → Move → Stage → Answer → CoreStep
told_by cap (Look kind level) stage answer = look_told stage answer
told_by cap (Exchange kind amount) stage answer = exchange_told answer
told_by cap (Leave kind (suc zero)) stage answer = Ready (reply_of cap kind stage)
told_by cap _ stage answer = Going

-- what the next step of the pass's call tells
abbrev pub step_answer : Start → State → ℕ → CoreStep
step_answer start s pass =
    let step = next_move start s pass in
    told_by start.cap step (stage_for start s pass step) (answer_of start s pass step)

-- the pass's last call stands in the history, and met this number there
abbrev pub HasMet : CoreLog → ℕ → ℕ → Type 0
HasMet core pass reply = HasReply core.start (calls_in core) ((state_in core).callers pass).last reply

-- since each moment before which the pass had no call underway and had made one call less, its own calls have grown by its last call
abbrev pub HasJoined : CoreLog → CoreLog → ℕ → Type 0
HasJoined old new pass = (earlier later : List Event) → old.log ≡ earlier ++ later
    → let then_was : CoreLog = record { start = old.start; log = earlier } in (HasCall then_was pass → ⊥) → ((state_in new).callers pass).made ≡ suc ((state_in then_was).callers pass).made
    → own pass (calls_in new) ≡ own pass (calls_in then_was) ++ ((state_in new).callers pass).last ∷ []

-- the pass's call has fewer steps left
abbrev pub HasFewerLeft : CoreLog → CoreLog → ℕ → Type 0
HasFewerLeft old new pass = (n : ℕ) → HoldsRows old.start pass n → steps_left new.start (state_in new) pass n < steps_left old.start (state_in old) pass n

-- the pass's call has at most levels * (2 * n + 14) steps left, where no aggregator on its way has more than n rows; and just 8 a level where it comes to an exchange, so it comes to one at most until it is answered
abbrev pub HasFewLeft : CoreLog → ℕ → Type 0
HasFewLeft core pass = (n : ℕ) → HoldsRows core.start pass n → let left = steps_left core.start (state_in core) pass n in
    (left ≤ core.start.shape.levels * (2 * n + 14)) × ((kind : Kind) (amount : ℕ) → next_move core.start (state_in core) pass ≡ Exchange kind amount → left ≡ 8 * core.start.shape.levels)

-- what holds after a step that tells this
abbrev pub Follows : CoreLog → CoreLog → ℕ → CoreStep → Type 0
Follows old new pass (Ready reply) = IsIdle new pass × HasMet new pass reply × HasJoined old new pass
Follows old new pass Going = HasCall new pass × HasFewerLeft old new pass
Follows old new pass (NotYet why) = HasCall new pass

-- an amount that a call of the pass may have by itself
abbrev pub MayOwn : CoreLog → ℕ → Kind → ℕ → Type 0
MayOwn core pass Read amount = amount ≡ 0
MayOwn core pass kind amount = MaySpend (state_in core) pass amount

-- the steps of a call that loads and then exchanges
abbrev pub exchange_moves : Kind → ℕ → List Move
exchange_moves kind amount = Load purpose.Try ∷ Exchange kind amount ∷ []

-- the steps of a call that goes to the main word by itself
abbrev pub own_moves : ℕ → Kind → ℕ → List Move
own_moves cap Read amount = Load purpose.Read ∷ []
own_moves cap Add amount = if cap == no_cap then Direct amount ∷ [] else exchange_moves Add amount
own_moves cap Sub amount = exchange_moves Sub amount

-- the call that a pass makes next stands last among its own calls, and met this number
abbrev pub OwnCallJoins : CoreLog → CoreLog → ℕ → Kind → ℕ → ℕ → Type 0
OwnCallJoins old new pass kind amount reply =
    let call = next_call (state_in old) pass kind amount in
    HasReply new.start (calls_in new) call reply × (own pass (calls_in new) ≡ own pass (calls_in old) ++ call ∷ [])
