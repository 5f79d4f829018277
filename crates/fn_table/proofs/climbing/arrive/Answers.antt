use Rattle.fn_table.proofs.Keeping.{keeps_arrive}
use Rattle.fn_table.proofs.climbing.arrive.Goals as goal

pub invariant_of-pass : goal.invariant_of-pass
invariant_of-pass c =
    let spent = c.spent_at-spent in
    keeps_arrive c.pass.inside.caller _ c.args.kind c.args.level c.args.weight _ spent.result _ spent.ensures.leaf spent.ensures.above c.pass.invariant c.add-found.ensures
