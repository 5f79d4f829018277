use Rattle.std.proofs.Common.{true, refl}
use Rattle.fn_core.specs.declared.Move.TheVariants.{See}
use Rattle.fn_table.proofs.Keeping.{keeps_with}
use Rattle.fn_table.proofs.climbing.see.Goals as goal

pub invariant_of-pass : goal.invariant_of-pass
invariant_of-pass c = keeps_with c.pass.inside.caller _ (See c.args.kind c.args.level) _ c.pass.inside.tally _ true tt c.pass.invariant c.load-found.ensures c.pass.invariant.left refl
