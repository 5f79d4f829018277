-- A bucket opens.
--     OpensWith burst opening rate period start allowances bucket      a bucket was opened with these numbers
--     fresh_desks bucket, IsNew bucket desk      its desks, and what holds of each
--     IsOpen bucket      what holds of each bucket
use Rattle.std.specs.Prelude.{◌≡◌, ℕ, ◌/◌, ◌≤◌, List, [], length, map}
use Rattle.running.specs.Running.{upto}
use Rattle.fn_table.specs.Seen.{IsWhole}
use Rattle.fn_table.specs.Seen as tokens
use Rattle.fn_layout.specs.Workers.{IsShapeFor}
use Rattle.fn_table.specs.Claims.{past}
use Rattle.tick_table.specs.Seen as ticks
use Rattle.quota_bucket.specs.Seen.{BucketView, DeskView, Belongs, burst}

-- The bucket was opened with these numbers: its ticks begin with that of the start, and it has a desk for each allowance
pub record OpensWith (most opening rate period start : ℕ) (allowances : List ℕ) (b : BucketView) : Type 0 where
  pub has_shape : IsShapeFor (length allowances) b.funnel.start.shape
  pub has_opening : b.funnel.start.opening ≡ opening
  pub has_burst : b.funnel.start.cap ≡ most
  pub has_allowances : b.funnel.start.allowances ≡ allowances
  pub has_ticks : b.ticks.start ≡ record { tick = start / period; desks = length allowances }
  pub has_rate : b.rate ≡ rate
  pub has_period : b.period ≡ period

-- a desk of a bucket that opens: the pass and the seat of its number, which nobody has used
abbrev pub fresh_desk : BucketView → ℕ → DeskView
fresh_desk b number = record { pass = tokens.fresh b.funnel number; seat = ticks.fresh b.ticks number }

-- all desks of a bucket that opens, by number
abbrev pub fresh_desks : BucketView → List DeskView
fresh_desks b = map (fresh_desk b) (upto b.ticks.start.desks)

-- The desk is one of the bucket, with its whole allowance; it has seen no call, and no entry
pub record IsNew (b : BucketView) (d : DeskView) : Type 0 where
  pub together : Belongs b d
  pub whole : IsWhole d.pass
  pub no_call : past d.pass ≡ []
  pub no_entry : d.seat.log ≡ []

-- What holds of each bucket: its numbers are no zeros, and it has a pass and a seat for each of its desks
pub record IsOpen (b : BucketView) : Type 0 where
  pub rate : 1 ≤ b.rate
  pub period : 1 ≤ b.period
  pub burst : 1 ≤ burst b
  pub desks : b.funnel.start.shape.passes ≡ b.ticks.start.desks
  pub few : b.ticks.start.desks ≤ 64
