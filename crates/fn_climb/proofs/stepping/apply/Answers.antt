use Rattle.fn_climb.proofs.Tops.{applied}
use Rattle.fn_climb.proofs.stepping.apply.Goals as goal

pub returns : goal.returns
returns c = rw c.take_base.ensures (applied c.requires.holds c.requires.free c.requires.shut.2 c.requires.top c.requires.adds c.requires.uncapped (rw c.weight.ensures at c.apply_batch-base.ensures))
