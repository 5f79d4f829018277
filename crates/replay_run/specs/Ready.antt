-- What a segment needs, and what stands before its first call.
--     IsSoundSegment workers caps openings rows      the segment's numbers stay in their limits
--     ArePlanned rows tenants workers plans      each plan allows what the rows ask for
--     Adds workers tenants openings rows old new books      the segment's answers were put behind those that stood there
--     IsReady workers caps openings rows pool seats      the pool is open, and each seat has its desk and its rows
use Rattle.std.specs.Prelude.{◌≡◌, ◌+◌, ◌^◌, ◌<◌, ◌≤◌, ℕ, List, [], ◌++◌, length, slice_index, slice_index_or, All}
use Rattle.quota_pool.specs.Views.{PoolView}
use Rattle.quota_pool.specs.Opened.{IsOpened}
use Rattle.trace_text.specs.SoundTrace.{IsSoundRow, amounts}
use Rattle.trace_text.specs.declared.traces.Row.{Row}
use Rattle.trace_text.specs.declared.traces.Tenant.{Tenant}
use Rattle.fn_core.specs.Calls.{CoreLog}
use Rattle.quota_pool.specs.declared.moved.Moved.{Moved}
use Rattle.replay_run.specs.Replay.{IsSegment}
use Rattle.replay_run.specs.Work.{Seat, of_worker, desks_in, AreDealt}

-- At most 256 tenants, each opening at most its cap and each cap below 2^63; sound rows; and each opening stays below 2^63 with the tenant's amounts
pub record IsSoundSegment (workers : ℕ) (caps openings : List ℕ) (rows : List Row) : Type 0 where
  pub few : length caps ≤ 256
  pub one_each : length openings ≡ length caps
  pub small : All (λ cap. cap < 2 ^ 63) caps
  pub within : (tenant : ℕ) → tenant < length caps → slice_index openings tenant ≤ slice_index caps tenant
  pub sound : All (IsSoundRow workers (length caps)) rows
  pub below : (tenant : ℕ) → tenant < length caps → slice_index openings tenant + amounts tenant rows < 2 ^ 63

-- A plan for each tenant, which allows each worker the amounts of its rows there
pub record ArePlanned (rows : List Row) (tenants workers : ℕ) (plans : List (List ℕ)) : Type 0 where
  pub one_each : length plans ≡ tenants
  pub sizes : All (λ plan. length plan ≡ workers) plans
  pub sums : (tenant : ℕ) → tenant < tenants → (worker : ℕ) → worker < workers → slice_index (slice_index_or plans tenant []) worker ≡ amounts tenant (of_worker worker rows)

-- The pool was opened with plans that allow what the rows ask for, and each desk has its seat, with its rows
pub record IsReady (workers : ℕ) (caps openings : List ℕ) (rows : List Row) (pool : PoolView) (seats : List Seat) : Type 0 where
  pub plans : List (List ℕ)
  pub planned : ArePlanned rows (length caps) workers plans
  pub opened : IsOpened openings caps workers plans pool (desks_in seats)
  pub dealt : AreDealt rows seats

-- The answers of a segment were put behind those that stood there
pub record Adds (workers : ℕ) (tenants : List Tenant) (openings : List ℕ) (rows : List Row) (old new : List Moved) (books : List CoreLog) : Type 0 where
  pub answers : List Moved
  pub added : new ≡ old ++ answers
  pub segment : IsSegment workers tenants openings rows answers books
