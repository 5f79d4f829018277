-- What a pool is that has just been opened.
--     fresh_hand tables worker, fresh_desk tables worker      the passes of a worker at these tables, and its desk
--     OpensWith workers opening cap plan table      a table was opened with these numbers
--     IsOpened openings caps workers plans pool desks      a pool and its desks
use Rattle.std.specs.Prelude.{◌≡◌, ◌<◌, ℕ, suc, List, [], ◌∷◌, length, map, slice_get, slice_index, slice_index_or, Some, All}
use Rattle.running.specs.Running.{upto}
use Rattle.fn_table.specs.Seen.{TableView, PassView, fresh}
use Rattle.fn_table.specs.Claims.{past, left, Rests}
use Rattle.fn_layout.specs.Workers.{IsShapeFor}
use Rattle.quota_pool.specs.Views.{PoolView, DeskView, Belongs}

-- the passes of a worker at these tables, each of which has made no step of its own
abbrev pub fresh_hand : List TableView → ℕ → List PassView
fresh_hand tables worker = map (λ table. fresh table worker) tables

-- the desk of a worker at these tables
abbrev pub fresh_desk : List TableView → ℕ → DeskView
fresh_desk tables worker = record { worker = worker; passes = fresh_hand tables worker }

-- A table was opened with these numbers
pub record OpensWith (workers opening cap : ℕ) (plan : List ℕ) (table : TableView) : Type 0 where
  pub has_shape : IsShapeFor workers table.start.shape
  pub has_opening : table.start.opening ≡ opening
  pub has_cap : table.start.cap ≡ cap
  pub has_plan : table.start.allowances ≡ plan

-- the pass makes no call, nobody's call has entered the history that it has seen, and it has its whole allowance
abbrev pub IsNew : PassView → Type 0
IsNew p = Rests p × (left p ≡ slice_index p.seen.start.allowances p.number) × (past p ≡ [])

-- A table was opened with these numbers, and its passes are new
pub record IsOpen (workers opening cap : ℕ) (plan : List ℕ) (table : TableView) : Type 0 where
  pub opens : OpensWith workers opening cap plan table
  pub new : (worker : ℕ) → worker < workers → IsNew (fresh table worker)

-- so many tables as there are plans, each of which was opened with its numbers
pub record AreOpen (workers : ℕ) (openings caps : List ℕ) (plans : List (List ℕ)) (tables : List TableView) : Type 0 where
  pub tenants : length tables ≡ length plans
  pub each : (tenant : ℕ) (table : TableView) → slice_get tables tenant ≡ Some table → IsOpen workers (slice_index openings tenant) (slice_index caps tenant) (slice_index_or plans tenant []) table

-- desks with these passes, for the workers from this number on
abbrev pub seated : ℕ → List (List PassView) → List DeskView
seated worker [] = []
seated worker (hand ∷ hands) = record { worker = worker; passes = hand } ∷ seated (suc worker) hands

-- A pool with a table for each tenant, opened with the tenant's numbers, and a desk for each worker, in order, with the worker's pass of each table
pub record IsOpened (openings caps : List ℕ) (workers : ℕ) (plans : List (List ℕ)) (pool : PoolView) (desks : List DeskView) : Type 0 where
  pub count : pool.workers ≡ workers
  pub tenants : length pool.tables ≡ length openings
  pub each : (tenant : ℕ) (table : TableView) → slice_get pool.tables tenant ≡ Some table
      → OpensWith workers (slice_index openings tenant) (slice_index caps tenant) (slice_index_or plans tenant []) table
  pub fresh : desks ≡ map (fresh_desk pool.tables) (upto workers)
  pub together : All (Belongs pool) desks
  pub new : All (λ desk. All IsNew desk.passes) desks
