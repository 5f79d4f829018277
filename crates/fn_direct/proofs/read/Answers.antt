use Rattle.fn_core.specs.declared.Move.TheVariants.{Load}
use Rattle.fn_core.specs.declared.Purpose.TheVariants as purpose
use Rattle.fn_model.specs.declared.Kind.TheVariants.{Read}
use Rattle.fn_direct.proofs.Told.{made_at_once}
use Rattle.fn_direct.proofs.Joined.{read_calls, read_alone}
use Rattle.fn_direct.proofs.read.Goals as goal

pub returns-clause-called : goal.returns-clause-called
returns-clause-called c = read_calls c.args.pass.now c.requires.idle c.load_read.result c.load_read.new.pass c.load_read.ensures

pub returns-clause-alone : goal.returns-clause-alone
returns-clause-alone c = read_alone c.args.pass.now c.requires.idle c.load_read.result c.load_read.new.pass c.load_read.ensures

pub returns-clause-made : goal.returns-clause-made
returns-clause-made c =
    let step = c.load_read.ensures in
    made_at_once c.args.pass.now (Load purpose.Read) c.load_read.result c.load_read.new.pass Read 0 c.requires.idle step (read_calls c.args.pass.now c.requires.idle c.load_read.result c.load_read.new.pass step)
