use Rattle.std.proofs.Common.{arith}
use Rattle.fn_model.specs.declared.Kind.TheVariants.{Add, Sub, Read}
use Rattle.quota_pool.proofs.Calling.{left_after}
use Rattle.quota_tests.proofs.pool_tests.four_calls.Goals as goal

pub direct-direct-requires-clause-amount : goal.direct-direct-requires-clause-amount
direct-direct-requires-clause-amount g c =
    let first = left_after c.args.pool.now c.args.desk.now 0 Sub 7 c.take-taken.result c.take-taken.new.self c.take-taken.ensures.made in
    let second = left_after c.args.pool.now c.take-taken.new.self 0 Add 3 c.add-added.result c.add-added.new.self c.add-added.ensures.made in
    let third = left_after c.args.pool.now c.add-added.new.self 0 Read 0 c.read-read.result c.read-read.new.self c.read-read.ensures.made in
    (omega arith, omega (arith, c.left.ensures, c.if-left-lt12.false, first, second, third))
