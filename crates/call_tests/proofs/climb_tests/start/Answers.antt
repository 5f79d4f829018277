use Rattle.fn_table.proofs.Later.{of_later}
use Rattle.call_tests.proofs.climb_tests.start.Goals as goal

pub returns-in-Waiting : goal.returns-in-Waiting
returns-in-Waiting c = of_later c.args.table.now c.args.pass c.in-Waiting.pending.pass c.in-Waiting.ensures.1.later c.requires.together
