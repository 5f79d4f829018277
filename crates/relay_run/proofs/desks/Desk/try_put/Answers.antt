-- A put is one step of the desk.
use Rattle.relay_run.proofs.Moving.{put_advances}
use Rattle.relay_run.proofs.desks.Desk.try_put.Goals as goal

pub returns-in-Ok-clause-outcome : goal.returns-in-Ok-clause-outcome
returns-in-Ok-clause-outcome g c = put_advances c.args.self.pass c.try_put-pass.result.0 c.args.self.owed c.in-Ok.ticket c.args.line (rw c.in-Ok.is at c.try_put-pass.ensures.made)
