use Rattle.fn_core.specs.declared.Move.TheVariants.{Leave}
use Rattle.fn_table.proofs.Owes.{may_as}
use Rattle.fn_table.proofs.Keeping.{keeps_leave}
use Rattle.fn_table.proofs.climbing.leave.Goals as goal

pub invariant_of-pass : goal.invariant_of-pass
invariant_of-pass c = keeps_leave c.pass.inside.caller _ c.args.kind c.args.level _ _ (may_as (Leave c.args.kind c.args.level) c.pass.view_is c.requires.may) c.pass.invariant c.store.ensures.1
