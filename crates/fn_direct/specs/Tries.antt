-- The two steps of a call that goes to the main word by an exchange.
--     Tried pass kind amount loaded found after      the pass loaded the main word, and then tried to exchange it
use Rattle.std.specs.Prelude.{ℕ}
use Rattle.fn_model.specs.declared.Kind.{Kind}
use Rattle.fn_core.specs.declared.Move.TheVariants.{Load, Exchange}
use Rattle.fn_core.specs.declared.Purpose.TheVariants as purpose
use Rattle.fn_table.specs.Seen.{PassView, Stepped}

-- The pass took two steps: it loaded this number of the main word, and its exchange found that one
pub record Tried (p : PassView) (kind : Kind) (amount loaded found : ℕ) (q : PassView) : Type 0 where
  pub between : PassView
  pub load : Stepped p (Load purpose.Try) loaded between
  pub exchange : Stepped between (Exchange kind amount) found q
