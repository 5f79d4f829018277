use Rattle.fn_table.proofs.Later.{of_later}
use Rattle.call_tests.proofs.climb_tests.goes.Goals as goal

pub returns-in-Going : goal.returns-in-Going
returns-in-Going c = of_later c.args.table.now c.args.pending.pass c.in-Going.pending.pass c.in-Going.ensures.0.later c.requires
