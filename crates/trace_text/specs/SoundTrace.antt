-- When a trace is sound for a number of workers.
-- `StaysBelow` is the rule for the sums of one tenant, segment by segment.
use Rattle.std.specs.Prelude.{◌≡◌, ℕ, ◌+◌, ◌-◌, ◌^◌, ◌<◌, ◌≤◌, ◌==◌, min, if◌then◌else◌, List, [], ◌∷◌, length, take, drop, slice_index_or}
use Rattle.std.specs.List.{All, sum_by}
use Rattle.trace_text.specs.Trace.{Content, added}
use Rattle.trace_text.specs.declared.traces.Cut.{Cut}
use Rattle.trace_text.specs.declared.traces.Op.{Op}
use Rattle.trace_text.specs.declared.traces.Op.TheVariants.{Add, Take, Direct, Read}
use Rattle.trace_text.specs.declared.traces.Row.{Row}
use Rattle.trace_text.specs.declared.traces.Tenant.{Tenant}

-- a read has the amount 0, and every other op at least 1
abbrev pub IsAmount : Op → ℕ → Type 0
IsAmount Read n = n ≡ 0
IsAmount Add n = 1 ≤ n
IsAmount Take n = 1 ≤ n
IsAmount Direct n = 1 ≤ n

-- the amounts of a tenant's rows together
abbrev pub amounts : ℕ → List Row → ℕ
amounts tenant rows = sum_by (λ row. if row.tenant == tenant then row.amount else 0) rows

-- what a tenant's rows can add together
abbrev pub additions : ℕ → List Row → ℕ
additions tenant rows = sum_by (λ row. if row.tenant == tenant then added row.op row.amount else 0) rows

-- of rows before which so many stand: in each segment a tenant's bound and its amounts stay below 2^63;
-- the next segment's bound is the bound with all that can be added, and at most the cap
abbrev pub StaysBelow : ℕ → ℕ → ℕ → ℕ → List Row → List Cut → Type 0
StaysBelow tenant cap bound before rows [] = bound + amounts tenant rows < 2 ^ 63
StaysBelow tenant cap bound before rows (cut ∷ cuts) =
    (bound + amounts tenant (take (cut.rows - before) rows) < 2 ^ 63)
    × StaysBelow tenant cap (min cap (bound + additions tenant (take (cut.rows - before) rows))) cut.rows (drop (cut.rows - before) rows) cuts

-- the cuts' numbers of rows begin at this one, don't fall, and are at most all
abbrev pub CutsRise : ℕ → ℕ → List Cut → Type 0
CutsRise before all [] = before ≤ all
CutsRise before all (cut ∷ cuts) = (before ≤ cut.rows) × CutsRise cut.rows all cuts

-- a tenant's opening is at most its cap, and that is below 2^63
pub record IsWithinCap (tenant : Tenant) : Type 0 where
  pub opening : tenant.opening ≤ tenant.cap
  pub cap : tenant.cap < 2 ^ 63

-- a row's worker is below `workers`, its tenant is one of so many, and its amount is that of its op
pub record IsSoundRow (workers tenants : ℕ) (row : Row) : Type 0 where
  pub worker : row.worker < workers
  pub tenant : row.tenant < tenants
  pub amount : IsAmount row.op row.amount

-- a sound trace: at most 256 tenants within their caps, sound rows, at most 100 cuts that rise, and sums that stay below 2^63
pub record IsSoundTrace (workers : ℕ) (trace : Content) : Type 0 where
  pub few : length trace.tenants ≤ 256
  pub tenants : All IsWithinCap trace.tenants
  pub rows : All (IsSoundRow workers (length trace.tenants)) trace.rows
  pub cuts_few : length trace.cuts ≤ 100
  pub cuts : CutsRise 0 (length trace.rows) trace.cuts
  pub below : (i : ℕ) (d : Tenant) → i < length trace.tenants
      → StaysBelow i (slice_index_or trace.tenants i d).cap (slice_index_or trace.tenants i d).opening 0 trace.rows trace.cuts
