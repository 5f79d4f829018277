-- What was there is given back.
use Rattle.std.proofs.Common.{◌*◌, arith}
use Rattle.uses.proofs.Counts.{returned_none, returned}
use Rattle.uses.proofs.quota.borrow.Goals as goal

pub returns-then-had-eq0-clause-returned : goal.returns-then-had-eq0-clause-returned
returns-then-had-eq0-clause-returned g c =
    returned_none c.args.funnel.now (2 * c.args.amount) c.args.amount c.sub-pass.result.1.before c.args.pass c.sub-pass.result.0 c.requires.new c.sub-pass.ensures.made (omega (arith, c.min-had.ensures, c.if-had-eq0.true))

pub returns-clause-returned : goal.returns-clause-returned
returns-clause-returned g c =
    returned c.args.funnel.now (2 * c.args.amount) c.args.amount c.min-had.result c.sub-pass.result.1.before c.add-pass.result.1.before c.args.pass c.sub-pass.result.0 c.add-pass.result.0 c.requires.new c.sub-pass.ensures.made (omega (arith, c.min-had.ensures)) c.add-pass.ensures.made
