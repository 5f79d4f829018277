use Rattle.std.proofs.Common.{arith}
use Rattle.table_tests.proofs.Levels.{at_looked, waits_still}
use Rattle.table_tests.proofs.more_levels.waits.Goals as goal

pub returns : goal.returns
returns c = record { waits = at_looked c.args.table.now c.args.number _ _ c.args.level _ c.args.under.now c.args.at _ (waits_still c.args.at _ (omega (arith, c.if-at-done.false))) c.requires.waits c.look-done.ensures }
