use Rattle.fn_table.proofs.Later.{of_later}
use Rattle.call_tests.proofs.climb_tests.halts.Goals as goal

pub returns-in-NotYet : goal.returns-in-NotYet
returns-in-NotYet c = of_later c.args.table.now c.args.pending.pass c.in-NotYet.pending.pass c.in-NotYet.ensures.0.later c.requires
