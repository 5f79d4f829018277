use Rattle.fn_model.specs.declared.Kind.TheVariants.{Read}
use Rattle.fn_core.specs.declared.Move.TheVariants.{Load}
use Rattle.fn_core.specs.declared.Purpose.TheVariants as purpose
use Rattle.fn_table.proofs.Later.{later_by}
use Rattle.fn_callers.proofs.Once.{made_once}
use Rattle.fn_callers.proofs.direct.load.Goals as goal

pub returns-clause-made : goal.returns-clause-made
returns-clause-made c = made_once c.args.pass.now Read 0 c.read.result c.read.new.pass c.number-legal.ensures.legal c.requires.rests (later_by c.args.pass.now (Load purpose.Read) c.read.result c.read.new.pass c.read.ensures.step) c.read.ensures.called
