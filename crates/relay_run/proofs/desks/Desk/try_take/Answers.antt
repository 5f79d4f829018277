-- A take is one step of the desk.
use Rattle.std.proofs.Common.{arith}
use Rattle.relay_run.proofs.Moving.{take_advances}
use Rattle.relay_run.proofs.desks.Desk.try_take.Goals as goal

pub returns-in-Ok-clause-outcome : goal.returns-in-Ok-clause-outcome
returns-in-Ok-clause-outcome g c =
    take_advances c.args.self.pass c.try_take-pass.result.0 c.args.self.owed c.in-Ok._taken.0 c.in-Ok._taken.1 (omega (arith, c.if-self-eq0.false)) (rw c.in-Ok.is at c.try_take-pass.ensures.made)
