use Rattle.std.proofs.Common.{◌-◌}
use Rattle.fn_core.specs.declared.Move.TheVariants.{Direct}
use Rattle.fn_table.proofs.Keeping.{keeps_with}
use Rattle.fn_table.proofs.main_word.direct.Goals as goal

pub invariant_of-pass : goal.invariant_of-pass
invariant_of-pass c =
    let k = c.pass.invariant in
    keeps_with c.pass.inside.caller _ (Direct c.args.amount) _ c.pass.inside.tally _ _ tt k c.add-found.ensures (λ i. k.left i - c.args.amount) k.calling
