use Rattle.fn_table.proofs.Later.{of_later}
use Rattle.call_tests.proofs.climb_tests.refused.Goals as goal

pub returns : goal.returns
returns c = (of_later c.args.table.now c.args.pass c.in-NoRow.pass c.in-NoRow.ensures.1.later c.requires.together, c.in-NoRow.ensures.4)
