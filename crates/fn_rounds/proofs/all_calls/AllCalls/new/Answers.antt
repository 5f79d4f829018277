use Rattle.fn_rounds.proofs.Paired.{started_of_table}
use Rattle.fn_rounds.proofs.all_calls.AllCalls.new.Goals as goal

pub invariant_of-result : goal.invariant_of-result
invariant_of-result c = started_of_table c.args.table.now c.args.lanes.items c.in-Ok.lanes c.in-Ok.ensures c.requires.together
