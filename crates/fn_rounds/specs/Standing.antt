-- How a lane stands between the rounds.
--     HasEnded given orders replies pass      the calls that have ended, and what the pass may still do
--     Stands given orders replies caller      by where the caller stands
use Rattle.std.specs.Prelude.{◌≤◌, ◌<◌, ℕ, List, Option, length, take, drop}
use Rattle.fn_model.specs.declared.Kind.{Kind}
use Rattle.fn_core.specs.declared.answer.Why.{Why}
use Rattle.fn_core.specs.Calls.{IsLegal}
use Rattle.fn_table.specs.Seen.{PassView}
use Rattle.fn_table.specs.Claims.{Rests}
use Rattle.fn_future.specs.Standing.{IsUnderway}
use Rattle.fn_rounds.specs.declared.lanes.Caller.{Caller}
use Rattle.fn_rounds.specs.declared.lanes.Caller.TheVariants.{Idle, Pending, Gone}
use Rattle.fn_rounds.specs.Lanes.{AreMade, MayMakeAll, order_at}

-- the calls whose replies are there were made up to here, and the pass may make the others
pub record HasEnded (given : PassView) (orders : List (Kind × ℕ)) (replies : List ℕ) (p : PassView) : Type 0 where
  pub inside : p.number < p.seen.start.shape.passes
  pub some : length replies ≤ length orders
  pub made : AreMade given (take (length replies) orders) replies p
  pub idle : Rests p
  pub legal : IsLegal p.seen
  pub may : MayMakeAll p (drop (length replies) orders)

-- an idle pass has ended its calls so far; one whose call is underway began the next order
abbrev pub Stands : PassView → List (Kind × ℕ) → List ℕ → Caller → Type 0
Stands given orders replies (Idle p) = HasEnded given orders replies p
Stands given orders replies (Pending now) =
    let order = order_at orders replies in
    (p : PassView) × (why : Option Why) × HasEnded given orders replies p × (length replies < length orders) × IsUnderway p order.0 order.1 now why
Stands given orders replies Gone = ⊥
