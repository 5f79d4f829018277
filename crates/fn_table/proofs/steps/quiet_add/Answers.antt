use Rattle.fn_table.proofs.Owes.{may_as}
use Rattle.fn_table.proofs.Keeping.{keeps_quiet}
use Rattle.fn_table.proofs.steps.quiet_add.Goals as goal

pub invariant_of-pass : goal.invariant_of-pass
invariant_of-pass c = keeps_quiet c.pass.inside.caller _ c.args.step _ _ c.pass.invariant (may_as c.args.step c.pass.view_is c.requires.may) c.requires.quiet c.add.ensures
