-- What the calls of a caller tell, status by status: each has its cause.
--     MayAsk caller amount, IsSpent caller amount      the caller may add or take so much, or it may not
--     LoadTold, ChangeTold old .. result new      of a load, and of an addition or a subtraction past the aggregators
--     BeginTold, PollTold old .. result new      of a beginning and of a poll
--     LeftTold, CloseTold caller result      of what is left, and of an end
use Rattle.std.specs.Prelude.{◌≡◌, ◌≢◌, ◌⊎◌, ◌+◌, ◌<◌, ◌≤◌, ℕ, Some, Result, Ok, Err}
use mathlib.Core.List.{IsPrefix}
use Rattle.fn_model.specs.declared.Kind.{Kind}
use Rattle.fn_model.specs.declared.Kind.TheVariants.{Add}
use Rattle.fn_core.specs.Machine.{no_cap}
use Rattle.fn_callers.specs.declared.caller.Reason.{Reason}
use Rattle.fn_callers.specs.declared.caller.Reason.TheVariants as why
use Rattle.fn_table.specs.Claims.{past, left, Made, MadeNone}
use Rattle.fn_callers.specs.Callers.{Begun, CallerView, IsFree, HasCall}

-- the caller has so much left, and the amount isn't 0
abbrev pub MayAsk : CallerView → ℕ → Type 0
MayAsk c amount = (1 ≤ amount) × (amount ≤ left c.pass)

-- the amount is 0, or above what the caller has left
abbrev pub IsSpent : CallerView → ℕ → Type 0
IsSpent c amount = (amount ≡ 0) ⊎ (left c.pass < amount)

-- a load: a caller with a call underway is as before
abbrev pub LoadTold : CallerView → Result ℕ Reason → CallerView → Type 0
LoadTold old (Ok value) new = IsFree old × IsFree new
LoadTold old (Err why.Underway) new = HasCall old × (new ≡ old)
LoadTold old (Err _) new = ⊥

-- an addition or a subtraction past the aggregators: where it lost, no call was made, and an addition has a cap; where it wasn't tried, the caller is as before
abbrev pub ChangeTold : CallerView → Kind → ℕ → Result ℕ Reason → CallerView → Type 0
ChangeTold old kind amount (Ok before) new = IsFree old × MayAsk old amount × IsFree new
ChangeTold old kind amount (Err why.Lost) new = IsFree old × MayAsk old amount × IsFree new × MadeNone old.pass new.pass × (kind ≡ Add → old.table.start.cap ≢ no_cap)
ChangeTold old kind amount (Err why.Underway) new = HasCall old × (new ≡ old)
ChangeTold old kind amount (Err why.Spent) new = IsFree old × IsSpent old amount × (new ≡ old)
ChangeTold old kind amount (Err _) new = ⊥

-- The same pass has begun exactly this call, whose amount it has spent; the call has no reply yet
pub record HasBegun (old : CallerView) (kind : Kind) (amount : ℕ) (new : CallerView) : Type 0 where
  pub call : new.call ≡ Some (record { given = old.pass; kind = kind; amount = amount })
  pub same : (new.pass.table ≡ old.pass.table) × (new.pass.number ≡ old.pass.number) × (new.pass.seen.start ≡ old.pass.seen.start)
  pub goes_on : IsPrefix (past old.pass) (past new.pass)
  pub spent : left new.pass + amount ≡ left old.pass

-- the beginning of a call: where it found no row, no call was made; where it wasn't tried, the caller is as before
abbrev pub BeginTold : CallerView → Kind → ℕ → Result (Unit {0}) Reason → CallerView → Type 0
BeginTold old kind amount (Ok _) new = IsFree old × MayAsk old amount × HasBegun old kind amount new
BeginTold old kind amount (Err why.NoRow) new = IsFree old × MayAsk old amount × IsFree new × MadeNone old.pass new.pass
BeginTold old kind amount (Err why.Underway) new = HasCall old × (new ≡ old)
BeginTold old kind amount (Err why.Spent) new = IsFree old × IsSpent old amount × (new ≡ old)
BeginTold old kind amount (Err _) new = ⊥

-- The same call is underway, of the same pass, which has seen more; it has as much left, and keeps its rows
pub record StillWaits (old new : CallerView) : Type 0 where
  pub call : new.call ≡ old.call
  pub same : (new.pass.table ≡ old.pass.table) × (new.pass.number ≡ old.pass.number) × (new.pass.seen.start ≡ old.pass.seen.start)
  pub goes_on : IsPrefix (past old.pass) (past new.pass)
  pub spent : left new.pass ≡ left old.pass
  pub rows : new.rows ≡ old.rows

-- the call that was underway, from its beginning on, is one call of its pass, which met the reply
abbrev pub HasMade : CallerView → ℕ → CallerView → Type 0
HasMade old reply new = (call : Begun) × (old.call ≡ Some call) × Made call.given call.kind call.amount reply new.pass

-- a poll: it ends the call or leaves it underway, and a caller that has none is as before
abbrev pub PollTold : CallerView → Result ℕ Reason → CallerView → Type 0
PollTold old (Ok reply) new = HasCall old × IsFree new
PollTold old (Err why.NotYet) new = HasCall old × StillWaits old new
PollTold old (Err why.Idle) new = IsFree old × (new ≡ old)
PollTold old (Err _) new = ⊥

-- what is left, of a caller that has no call underway
abbrev pub LeftTold : CallerView → Result ℕ Reason → Type 0
LeftTold c (Ok n) = IsFree c × (n ≡ left c.pass)
LeftTold c (Err why.Underway) = HasCall c
LeftTold c (Err _) = ⊥

-- the end of a caller: one with a call underway comes back as it was
abbrev pub CloseTold : CallerView → Result (Unit {0}) CallerView → Type 0
CloseTold c (Ok _) = IsFree c
CloseTold c (Err back) = HasCall c × (back ≡ c)
