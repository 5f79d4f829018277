-- What contracts see of a bucket and its desks.
--     BucketView, DeskView      a bucket, and a desk
--     burst bucket      the most tokens that it holds
--     Belongs bucket desk      the desk is one of the bucket, and makes no call
--     AreAll bucket desks      the desks are all that the bucket has
use Rattle.std.specs.Prelude.{◌≡◌, ℕ, List, map}
use Rattle.running.specs.Running.{upto}
use Rattle.fn_table.specs.Seen.{TableView, PassView}
use Rattle.fn_table.specs.Seen as tokens
use Rattle.fn_table.specs.Claims.{Rests}
use Rattle.tick_table.specs.Seen.{TicksView, SeatView}
use Rattle.tick_table.specs.Seen as ticks

-- a bucket: the funnel of its tokens, the table of its ticks, and how many tokens are refilled for each tick of how many moments
pub record BucketView : Type 0 where
  pub funnel : TableView
  pub ticks : TicksView
  pub rate : ℕ
  pub period : ℕ

-- the most tokens that a bucket holds
abbrev pub burst : BucketView → ℕ
burst b = b.funnel.start.cap

-- a desk: its pass of the tokens, and its seat at the ticks
pub record DeskView : Type 0 where
  pub pass : PassView
  pub seat : SeatView

-- The desk is one of the bucket: its pass and its seat are of the bucket's two tables and have one number, and the pass makes no call
pub record Belongs (b : BucketView) (d : DeskView) : Type 0 where
  pub pass : tokens.IsOf b.funnel d.pass
  pub seat : ticks.IsOf b.ticks d.seat
  pub number : d.pass.number ≡ d.seat.number
  pub rests : Rests d.pass

-- the desks are all that the bucket has, by number
abbrev pub AreAll : BucketView → List DeskView → Type 0
AreAll b desks = map (λ d. d.seat.number) desks ≡ upto b.ticks.start.desks
