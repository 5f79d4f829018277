-- What contracts see of a pool and of its desks.
--     PoolView, DeskView      how many workers a pool has, and the table of each tenant; a desk's worker, and its pass at each tenant
--     Belongs pool desk      the desk is one of the pool
--     left_at desk tenant      what the desk has left of its allowance at a tenant
use Rattle.std.specs.Prelude.{◌≡◌, ℕ, ◌<◌, ◌≤◌, List, length, slice_get, Option, Some, None}
use Rattle.fn_table.specs.Seen.{TableView, PassView, IsOf}
use Rattle.fn_table.specs.Claims.{left, Rests}

-- a pool: how many workers it has, and the table of each tenant
pub record PoolView : Type 0 where
  pub workers : ℕ
  pub tables : List TableView

-- a desk: its worker, and its pass at each tenant
pub record DeskView : Type 0 where
  pub worker : ℕ
  pub passes : List PassView

-- The desk is one of the pool: at each tenant it has the pass of its worker's number, which makes no call
pub record Belongs (pool : PoolView) (desk : DeskView) : Type 0 where
  pub tenants : length desk.passes ≡ length pool.tables
  pub worker : desk.worker < pool.workers
  pub each : (tenant : ℕ) (table : TableView) (pass : PassView) → slice_get pool.tables tenant ≡ Some table → slice_get desk.passes tenant ≡ Some pass
      → IsOf table pass × (pass.number ≡ desk.worker) × Rests pass

-- what a pass has left of its allowance, and 0 without a pass
abbrev pub left_in : Option PassView → ℕ
left_in None = 0
left_in (Some pass) = left pass

-- what a desk has left of its allowance at a tenant
abbrev pub left_at : DeskView → ℕ → ℕ
left_at desk tenant = left_in (slice_get desk.passes tenant)

-- an amount that the desk may add or take at a tenant
abbrev pub MayMove : DeskView → ℕ → ℕ → Type 0
MayMove desk tenant amount = (1 ≤ amount) × (amount ≤ left_at desk tenant)
