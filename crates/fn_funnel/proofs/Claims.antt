-- A call that has waited for its reply is made.
use Rattle.std.proofs.Common.{ℕ}
use Rattle.fn_model.specs.declared.Kind.{Kind}
use Rattle.fn_core.specs.Calls.{IsLegal}
use Rattle.fn_table.specs.Seen.{PassView}
use Rattle.fn_table.specs.Claims.{Rests, Made}
use Rattle.fn_table.proofs.Claims.{made_by}
use Rattle.fn_funnel.specs.Waiting.{Waited}
use Rattle.fn_funnel.specs.declared.waiting.Added.{Added}

-- a call that has waited, as its steps tell it, is made in the words of the integer and its history
pub made_waited : (p : PassView) (kind : Kind) (amount : ℕ) (added : Added) (q : PassView) → IsLegal p.seen → Rests p → Waited p kind amount added q → Made p kind amount added.before q
made_waited p kind amount added q legal rests waited = made_by p kind amount added.before q legal rests waited.later waited.called waited.within
