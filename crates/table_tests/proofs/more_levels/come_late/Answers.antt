use Rattle.std.proofs.Common.{arith}
use Rattle.table_tests.proofs.Levels.{at_looked, late_now, may_head_late, holds_first}
use Rattle.table_tests.proofs.more_levels.come_late.Goals as goal

pub head-link-requires-clause-may : goal.head-link-requires-clause-may
head-link-requires-clause-may c =
    let late = at_looked c.args.table.now c.args.number _ _ c.args.level _ c.args.under.now c.args.at _ (late_now c.args.at _ (omega (arith, c.if-done-at.false))) c.requires.waits c.look-done.ensures in
    may_head_late c.args.table.now c.args.number _ c.args.level c.args.under.now _ late

pub returns : goal.returns
returns c =
    let late = at_looked c.args.table.now c.args.number _ _ c.args.level _ c.args.under.now c.args.at _ (late_now c.args.at _ (omega (arith, c.if-done-at.false))) c.requires.waits c.look-done.ensures in
    record { row = holds_first c.args.table.now c.args.number _ _ c.args.level c.args.at c.args.owner _ _ c.args.under.now c.in_ok-row.ensures.first (omega (arith, c.if-link-from.false, c.from.ensures)) late c.head-link.ensures }
