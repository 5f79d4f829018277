-- What stands while segments are replayed, one after the other.
--     IsSoundFrom workers caps openings before rows cuts      what is left to replay stays in its limits
--     GoesOn workers tenants rows openings old after new      one more segment was replayed
use Rattle.std.specs.Prelude.{◌≡◌, ◌^◌, ◌<◌, ◌≤◌, ℕ, List, ◌++◌, length, map, slice_index, All}
use Rattle.fn_core.specs.Calls.{CoreLog}
use Rattle.quota_pool.specs.declared.moved.Moved.{Moved}
use Rattle.trace_text.specs.SoundTrace.{IsSoundRow, StaysBelow}
use Rattle.trace_text.specs.declared.traces.Cut.{Cut}
use Rattle.trace_text.specs.declared.traces.Row.{Row}
use Rattle.trace_text.specs.declared.traces.Tenant.{Tenant}
use Rattle.replay_run.specs.declared.replaying.Replayed.{Replayed}
use Rattle.replay_run.specs.Replay.{value_in, IsSegment}

-- The caps, openings and sums of what is left stay in their limits, where so many rows stand before it
pub record IsSoundFrom (workers : ℕ) (caps openings : List ℕ) (before : ℕ) (rows : List Row) (cuts : List Cut) : Type 0 where
  pub few : length caps ≤ 256
  pub one_each : length openings ≡ length caps
  pub small : All (λ cap. cap < 2 ^ 63) caps
  pub within : (tenant : ℕ) → tenant < length caps → slice_index openings tenant ≤ slice_index caps tenant
  pub sound : All (IsSoundRow workers (length caps)) rows
  pub below : (tenant : ℕ) → tenant < length caps → StaysBelow tenant (slice_index caps tenant) (slice_index openings tenant) before rows cuts

-- One more segment was replayed, and its books' values are the next openings
pub record GoesOn (workers : ℕ) (tenants : List Tenant) (rows : List Row) (openings : List ℕ) (old : Replayed) (after : List ℕ) (new : Replayed) : Type 0 where
  pub answers : List Moved
  pub books : List CoreLog
  pub more_answers : new.answers.items ≡ old.answers.items ++ answers
  pub more_books : new.books.items ≡ old.books.items ++ books
  pub segment : IsSegment workers tenants openings rows answers books
  pub settled : after ≡ map value_in books
