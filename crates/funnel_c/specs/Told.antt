-- What the functions answer to C: a status, and a number that is written where there is a reply.
--     reason_status reason, status_of answer, begun_status answer      the status of a reason, of a call, of a beginning
--     reply_or before answer      the number that stands there after a call
--     kind_of subtracts      the kind of a call that C begins
--     Loads, Changes, Begins, Polls old .. answer new      what a caller tells of its call
--     CallTold, BeginningTold Tells old status .. new      what C is told of it, of the caller in a slot
use Rattle.std.specs.Prelude.{◌≡◌, ℕ, Bool, true, false, Option, Some, None, Result, Ok, Err, IfOk}
use Rattle.fn_model.specs.declared.Kind.{Kind}
use Rattle.fn_model.specs.declared.Kind.TheVariants.{Add, Sub, Read}
use Rattle.fn_table.specs.Claims.{Made}
use Rattle.fn_callers.specs.declared.caller.Reason.{Reason}
use Rattle.fn_callers.specs.declared.caller.Reason.TheVariants as why
use Rattle.fn_callers.specs.Callers.{CallerView}
use Rattle.fn_callers.specs.Told as callers
use Rattle.fn_callers.specs.Ways.{ChangeWay, BeginWay, PollWay}
use Rattle.funnel_c.specs.declared.statuses.TheConstants.{OK, NOT_YET, NO_ROW, LOST, EMPTY, UNDERWAY, IDLE, SPENT}

-- the status of a reason
abbrev pub reason_status : Reason → ℕ
reason_status why.NotYet = NOT_YET
reason_status why.NoRow = NO_ROW
reason_status why.Lost = LOST
reason_status why.Underway = UNDERWAY
reason_status why.Idle = IDLE
reason_status why.Spent = SPENT

-- the status of a call: it has a reply, or there is a reason why not
abbrev pub status_of : Result ℕ Reason → ℕ
status_of (Ok reply) = OK
status_of (Err reason) = reason_status reason

-- the status of a beginning: the call that has begun waits for its reply
abbrev pub begun_status : Result (Unit {0}) Reason → ℕ
begun_status (Ok _) = NOT_YET
begun_status (Err reason) = reason_status reason

-- the number that stands there after a call: the reply, or else what stood there before
abbrev pub reply_or : ℕ → Result ℕ Reason → ℕ
reply_or before (Ok reply) = reply
reply_or before (Err reason) = before

-- the kind of a call that C begins
abbrev pub kind_of : Bool → Kind
kind_of true = Sub
kind_of false = Add

-- What a caller tells of a load: of a reply, it has made exactly this call
pub record Loads (old : CallerView) (answer : Result ℕ Reason) (new : CallerView) : Type 0 where
  pub told : callers.LoadTold old answer new
  pub made : IfOk answer (λ value. Made old.pass Read 0 value new.pass)
  pub table : new.table ≡ old.table

-- What it tells of an addition or a subtraction past the aggregators, and by which steps
pub record Changes (kind : Kind) (amount : ℕ) (old : CallerView) (answer : Result ℕ Reason) (new : CallerView) : Type 0 where
  pub told : callers.ChangeTold old kind amount answer new
  pub made : IfOk answer (λ before. Made old.pass kind amount before new.pass)
  pub table : new.table ≡ old.table
  pub way : ChangeWay old kind amount answer new

-- What it tells of a call's beginning
pub record Begins (kind : Kind) (amount : ℕ) (old : CallerView) (answer : Result (Unit {0}) Reason) (new : CallerView) : Type 0 where
  pub told : callers.BeginTold old kind amount answer new
  pub table : new.table ≡ old.table
  pub way : BeginWay old kind amount answer new

-- What it tells of a poll: of a reply, the call as it began is exactly one call, which was made
pub record Polls (old : CallerView) (answer : Result ℕ Reason) (new : CallerView) : Type 0 where
  pub told : callers.PollTold old answer new
  pub made : IfOk answer (λ reply. callers.HasMade old reply new)
  pub table : new.table ≡ old.table
  pub way : PollWay old answer new

-- of an empty slot, that it is empty; of a caller, an answer that it tells: the status is the answer's, and its reply is written
abbrev pub CallTold : (CallerView → Result ℕ Reason → CallerView → Type 0) → Option CallerView → (status before after : ℕ) → Option CallerView → Type 0
CallTold Tells (Some old) status before after (Some new) = (answer : Result ℕ Reason) × (status ≡ status_of answer) × (after ≡ reply_or before answer) × Tells old answer new
CallTold Tells None status before after None = (status ≡ EMPTY) × (after ≡ before)
CallTold Tells _ status before after _ = ⊥

-- the same of a call's beginning, which writes no number
abbrev pub BeginningTold : (CallerView → Result (Unit {0}) Reason → CallerView → Type 0) → Option CallerView → (status : ℕ) → Option CallerView → Type 0
BeginningTold Tells (Some old) status (Some new) = (answer : Result (Unit {0}) Reason) × (status ≡ begun_status answer) × Tells old answer new
BeginningTold Tells None status None = status ≡ EMPTY
BeginningTold Tells _ status _ = ⊥
