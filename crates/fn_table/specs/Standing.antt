-- Where a pass stands between two calls.
--     IsNumbered table pass number      the pass of this number makes no call
use Rattle.std.specs.Prelude.{◌≡◌, ℕ}
use Rattle.fn_core.specs.Calls.{IsIdle}
use Rattle.fn_table.specs.Seen.{TableView, PassView, IsOf}

-- the pass is the table's of this number, and makes no call
pub record IsNumbered (t : TableView) (p : PassView) (number : ℕ) : Type 0 where
  pub together : IsOf t p
  pub named : p.number ≡ number
  pub idle : IsIdle p.seen p.number
