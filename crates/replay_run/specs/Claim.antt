-- What a replay claims: each tenant has one history, of which each answer and each value tells. Of how the calls were made it says nothing.
--     AreCallsOf t rows history      the history has the calls of these rows at tenant t, and no other
--     Answers tenant history call answer      the call stands in the history, and this is its answer there
--     Settles tenant history t rows final      the calls of these rows stand in front, and leave this value
--     IsHistoryOf trace answers values t tenant history      all that is answered of tenant t is told of the history
--     TellsReplay trace answers values      each tenant has a history
use Rattle.std.specs.Prelude.{◌≡◌, ℕ, ◌+◌, ◌*◌, List, length, take, slice_get, Option, Some}
use mathlib.Core.List.{IsPrefix}
use Rattle.fn_model.specs.declared.Call.{Call}
use Rattle.fn_model.specs.Calls.{own}
use Rattle.fn_model.specs.Integer.{value, moved_amount, Meets}
use Rattle.quota_pool.specs.declared.moved.Moved.{Moved}
use Rattle.trace_text.specs.declared.traces.Cut.{Cut}
use Rattle.trace_text.specs.declared.traces.Row.{Row}
use Rattle.trace_text.specs.declared.traces.Tenant.{Tenant}
use Rattle.trace_text.specs.Trace.{Content}
use Rattle.replay_run.specs.Segments.{rows_of, call_after, calls_from}

-- each worker's own calls in the history are its rows at tenant t, in their order, and there is no other call
abbrev pub AreCallsOf : ℕ → List Row → List Call → Type 0
AreCallsOf t rows history = (worker : ℕ) → own worker history ≡ calls_from 0 (rows_of worker t rows)

-- the call stands in the history; the answer has the integer just before it there, and how much of its amount the call moves
pub record Answers (tenant : Tenant) (history : List Call) (call : Call) (answer : Moved) : Type 0 where
  pub met : Meets tenant.cap tenant.opening history call answer.before
  pub moved : answer.moved ≡ moved_amount tenant.cap answer.before call.kind call.amount

-- in front of the history stand the calls of these rows at tenant t, and they leave this value
pub record Settles (tenant : Tenant) (history : List Call) (t : ℕ) (rows : List Row) (final : ℕ) : Type 0 where
  pub front : List Call
  pub in_front : IsPrefix front history
  pub calls : AreCallsOf t rows front
  pub left : final ≡ value tenant.cap tenant.opening front

-- the value of tenant t at the end of a segment, where the tenants' values stand segment by segment
abbrev pub value_at : Content → List ℕ → ℕ → ℕ → Option ℕ
value_at trace values segment t = slice_get values (segment * length trace.tenants + t)

-- The history of tenant t: it has the calls of its rows; each of these rows is answered there; at each cut the rows before it stand in front and leave the value; and all calls leave the last
pub record IsHistoryOf (trace : Content) (answers : List Moved) (values : List ℕ) (t : ℕ) (tenant : Tenant) (history : List Call) : Type 0 where
  pub calls : AreCallsOf t trace.rows history
  pub rows : (k : ℕ) (row : Row) (answer : Moved) → slice_get trace.rows k ≡ Some row → slice_get answers k ≡ Some answer → row.tenant ≡ t
      → Answers tenant history (call_after (take k trace.rows) row) answer
  pub cuts : (k : ℕ) (cut : Cut) (final : ℕ) → slice_get trace.cuts k ≡ Some cut → value_at trace values k t ≡ Some final
      → Settles tenant history t (take cut.rows trace.rows) final
  pub last : (final : ℕ) → value_at trace values (length trace.cuts) t ≡ Some final → final ≡ value tenant.cap tenant.opening history

-- Each row has an answer, each tenant a value at each cut and one at the end, and each tenant a history of which they tell
pub record TellsReplay (trace : Content) (answers : List Moved) (values : List ℕ) : Type 0 where
  pub one_each : length answers ≡ length trace.rows
  pub values_each : length values ≡ (length trace.cuts + 1) * length trace.tenants
  pub histories : (t : ℕ) (tenant : Tenant) → slice_get trace.tenants t ≡ Some tenant → (history : List Call) × IsHistoryOf trace answers values t tenant history
