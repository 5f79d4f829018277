use Rattle.std.proofs.Common.{arith}
use Rattle.fn_table.proofs.Small.{seen_small}
use Rattle.fn_table.proofs.climbing.announce.Goals as goal

pub overflow_add-seen : goal.overflow_add-seen
overflow_add-seen c = let small = seen_small c.args.pass.now c.args.kind c.args.level c.args.seen c.number-number.ensures.legal c.requires.may c.requires.seen in omega (arith, small)
