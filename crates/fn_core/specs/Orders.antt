-- How logs go on, and what a step, a call by itself and a beginning leave.
--     LogsArePartedAndJoined, RunsGoOn      a legal log and its parts
--     HistoriesGoOn      the history of a log that goes on from another
--     CallsAreOfPasses, RestingPassesHaveNoCall      whose calls there are
--     StepsLeave, OwnCallsLeave, BeginningsLeave      what each order to a pass leaves
--     FaultlessStartsAreStarts      with which numbers a funnel opens
use Rattle.std.specs.Prelude.{◌≡◌, ℕ, suc, ◌+◌, ◌<◌, ◌≤◌, ◌^◌, List, ◌++◌, All, length, sum}
use mathlib.Core.List.{IsPrefix}
use Rattle.fn_model.specs.declared.Kind.{Kind}
use Rattle.fn_layout.specs.declared.shape.Shape.{Shape}
use Rattle.fn_core.specs.declared.Event.{Event}
use Rattle.fn_core.specs.declared.answer.Blocked.{Blocked}
use Rattle.fn_core.specs.declared.answer.CoreBegun.{CoreBegun}
use Rattle.fn_core.specs.declared.answer.CoreBegun.TheVariants.{Waiting, NoRow}
use Rattle.fn_core.specs.State.{Start, State, Caller, history_in, next_call}
use Rattle.fn_core.specs.Machine.{no_cap, IsStart, IsChange, MaySpend, Legal, run}
use Rattle.fn_core.specs.Order.{next_move}
use Rattle.fn_core.specs.Begin.{WaitsAtLeaf, begin_moves, begun, spent}
use Rattle.fn_core.specs.Calls.{CoreLog, state_in, calls_in, IsLegal, IsIdle, HasCall, MayOwn, OwnCallJoins, LeavesOthers, left_of, with_move, with_moves, own_moves}
use Rattle.fn_core.specs.Laws.{Always}

-- the events of a log happen where those before some moment do and then those after it
abbrev pub LogsArePartedAndJoined : Type 0
LogsArePartedAndJoined = (start : Start) (earlier later : List Event) (s : State)
    → (Legal start (earlier ++ later) s → Legal start earlier s × Legal start later (run start earlier s))
    × (Legal start earlier s → Legal start later (run start earlier s) → Legal start (earlier ++ later) s)

-- the later events go on from the state that the earlier ones leave
abbrev pub RunsGoOn : Type 0
RunsGoOn = (start : Start) (earlier later : List Event) (s : State) → run start (earlier ++ later) s ≡ run start later (run start earlier s)

-- the history of a log begins that of each log that goes on from it
abbrev pub HistoriesGoOn : Type 0
HistoriesGoOn = (old new : CoreLog) → IsLegal new → new.start ≡ old.start → IsPrefix old.log new.log → IsPrefix (calls_in old) (calls_in new)

-- each call of the history is of one of the funnel's passes
abbrev pub CallsAreOfPasses : Type 0
CallsAreOfPasses = Always (λ start s. All (λ call. call.pass < start.shape.passes) (history_in start s))

-- a pass that rests has no call underway
abbrev pub RestingPassesHaveNoCall : Type 0
RestingPassesHaveNoCall = (core : CoreLog) → IsLegal core → (pass : ℕ) → pass < core.start.shape.passes → IsIdle core pass → HasCall core pass → ⊥

-- as many calls, and the same last one
abbrev pub HasSameCalls : Caller → Caller → Type 0
HasSameCalls new old = (new.made ≡ old.made) × (new.last ≡ old.last)

-- what the next step of a pass's call leaves
pub record StepLeaves (old new : CoreLog) (pass : ℕ) : Type 0 where
  pub legal : IsLegal new
  pub calls : HasSameCalls ((state_in new).callers pass) ((state_in old).callers pass)
  pub left : left_of new pass ≡ left_of old pass
  pub others : LeavesOthers old new pass

abbrev pub StepsLeave : Type 0
StepsLeave = (core : CoreLog) → IsLegal core → (pass : ℕ) → pass < core.start.shape.passes → HasCall core pass → StepLeaves core (with_move core pass (next_move core.start (state_in core) pass)) pass

-- what a call leaves that goes to the main word by itself
pub record OwnCallLeaves (old new : CoreLog) (pass : ℕ) (kind : Kind) (amount : ℕ) : Type 0 where
  pub legal : IsLegal new
  pub joins : OwnCallJoins old new pass kind amount (state_in old).main
  pub idle : IsIdle new pass
  pub left : left_of new pass + amount ≡ left_of old pass
  pub others : LeavesOthers old new pass

abbrev pub OwnCallsLeave : Type 0
OwnCallsLeave = (core : CoreLog) → IsLegal core → (pass : ℕ) → pass < core.start.shape.passes → IsIdle core pass → (kind : Kind) (amount : ℕ) → MayOwn core pass kind amount
    → OwnCallLeaves core (with_moves core pass (own_moves core.start.cap kind amount)) pass kind amount

-- what a call that has begun has made of its pass
pub record HasBegun (old new : CoreLog) (pass : ℕ) (kind : Kind) (amount : ℕ) : Type 0 where
  pub waits : WaitsAtLeaf new pass kind
  pub last : ((state_in new).callers pass).last ≡ next_call (state_in old) pass kind amount
  pub made : ((state_in new).callers pass).made ≡ suc ((state_in old).callers pass).made

-- what the beginning of a call leaves
pub record BeginningLeaves (old new : CoreLog) (pass : ℕ) (kind : Kind) (amount : ℕ) (told : CoreBegun) : Type 0 where
  pub legal : IsLegal new
  pub waiting : told ≡ Waiting → HasBegun old new pass kind amount
  pub refused : (at : Blocked) → told ≡ NoRow at → (state_in new).callers pass ≡ (state_in old).callers pass
  pub left : left_of new pass + spent told amount ≡ left_of old pass
  pub others : LeavesOthers old new pass

abbrev pub BeginningsLeave : Type 0
BeginningsLeave = (core : CoreLog) → IsLegal core → (pass : ℕ) → pass < core.start.shape.passes → IsIdle core pass → (kind : Kind) → IsChange kind → (amount : ℕ) → MaySpend (state_in core) pass amount
    → BeginningLeaves core (with_moves core pass (begin_moves core.start (state_in core) pass kind amount)) pass kind amount (begun core.start (state_in core) pass kind)

-- a funnel of this shape may open with these numbers
abbrev pub FaultlessStartsAreStarts : Type 0
FaultlessStartsAreStarts = (shape : Shape) (opening cap : ℕ) (allowances : List ℕ) → length allowances ≡ shape.passes → cap ≤ no_cap → opening ≤ cap → opening + sum allowances < 2 ^ 63
    → IsStart (record { shape = shape; opening = opening; cap = cap; allowances = allowances })
