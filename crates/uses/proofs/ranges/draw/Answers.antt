-- A range is drawn.
use Rattle.uses.proofs.Counts.{drawn}
use Rattle.uses.proofs.ranges.draw.Goals as goal

pub returns : goal.returns
returns g c = drawn c.args.funnel.now c.args.size c.args.size c.add-pass.result.1.before c.args.pass c.add-pass.result.0 c.requires.new c.add-pass.ensures.made
