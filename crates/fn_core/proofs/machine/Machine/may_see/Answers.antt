use Rattle.std.proofs.Common.{arith}
use Rattle.fn_core.specs.State.{opened}
use Rattle.fn_core.specs.Machine.{run}
use Rattle.fn_core.proofs.Decided.{sees_above}
use Rattle.fn_core.proofs.machine.Machine.may_see.Goals as goal

pub returns-then-level-levels : goal.returns-then-level-levels
returns-then-level-levels c = λ log stands. sees_above c.args.self.now.start (run c.args.self.now.start log (opened c.args.self.now.start)) c.args.pass c.args.kind c.args.level _ c.if-level-ge2.true (omega (arith, c.if-level-levels.true, c.levels.ensures)) (c.has_shut.ensures log stands)
