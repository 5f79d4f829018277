-- How the draws came about: the funnel, and the book that it closed into.
--     IsFunnelFor workers grain count start      what the funnel opened with
--     IsBookOfDraws workers grain count draws book      its book
use Rattle.std.specs.Prelude.{◌≡◌, ℕ, suc, ◌*◌, List, map, All, replicate}
use Rattle.running.specs.Running.{upto}
use Rattle.fn_model.specs.declared.TheConstants.{NO_CAP}
use Rattle.fn_core.specs.declared.Start.{Start}
use Rattle.fn_core.specs.Calls.{CoreLog, calls_in, IsLegal}
use Rattle.fn_table.specs.Seen.{PassView, IsClosed}
use Rattle.fn_layout.specs.Workers.{IsShapeFor}
use Rattle.fn_table.specs.Claims.{Rests}
use Rattle.fn_spread.specs.Ranges.{ranges_of}
use Rattle.fn_spread.specs.Draws.{AreDraws}

-- A funnel with a pass for each worker: it opens at 0, no addition stops at a cap, and each pass has enough for one draw more than there are ranges
pub record IsFunnelFor (workers grain count : ℕ) (start : Start) : Type 0 where
  pub has_shape : IsShapeFor workers start.shape
  pub has_opening : start.opening ≡ 0
  pub has_cap : start.cap ≡ NO_CAP
  pub has_allowances : start.allowances ≡ replicate workers (suc (ranges_of grain count) * grain)

-- The book is legal, of such a funnel, and closed with the passes of all workers, none of which had a call underway; its calls are the draws
pub record IsBookOfDraws (workers grain count : ℕ) (draws : List ℕ) (book : CoreLog) : Type 0 where
  pub legal : IsLegal book
  pub opened : IsFunnelFor workers grain count book.start
  pub closed : (passes : List PassView) × (map (λ p. p.number) passes ≡ upto workers) × All Rests passes × IsClosed passes book
  pub calls : AreDraws workers grain count draws (calls_in book)
