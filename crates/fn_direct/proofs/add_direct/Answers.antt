use Rattle.fn_core.specs.declared.Move.TheVariants.{Direct}
use Rattle.fn_model.specs.declared.Kind.TheVariants.{Add}
use Rattle.fn_direct.proofs.Told.{made_at_once}
use Rattle.fn_direct.proofs.Joined.{direct_calls, direct_alone}
use Rattle.fn_direct.proofs.add_direct.Goals as goal

pub returns-clause-called : goal.returns-clause-called
returns-clause-called c = direct_calls c.args.pass.now c.requires.idle c.args.amount c.direct.result c.direct.new.pass c.requires.amount.1 c.direct.ensures

pub returns-clause-alone : goal.returns-clause-alone
returns-clause-alone c = direct_alone c.args.pass.now c.requires.idle c.args.amount c.direct.result c.direct.new.pass c.direct.ensures

pub returns-clause-made : goal.returns-clause-made
returns-clause-made c =
    let step = c.direct.ensures in
    made_at_once c.args.pass.now (Direct c.args.amount) c.direct.result c.direct.new.pass Add c.args.amount c.requires.idle step (direct_calls c.args.pass.now c.requires.idle c.args.amount c.direct.result c.direct.new.pass c.requires.amount.1 step)
