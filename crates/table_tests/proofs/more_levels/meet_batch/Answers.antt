use Rattle.std.proofs.Common.{arith}
use Rattle.table_tests.proofs.Levels.{may_peek_lo, may_peek_base, at_hit, at_met}
use Rattle.table_tests.proofs.more_levels.meet_batch.Goals as goal

pub peek-lo-requires-clause-may : goal.peek-lo-requires-clause-may
peek-lo-requires-clause-may c = may_peek_lo c.args.table.now c.args.number c.args.pass.now c.args.pass.now c.args.level c.args.at c.args.owner _ 0 c.args.under.now c.in_ok-row.ensures.first c.requires.row

pub peek-base-requires-clause-may : goal.peek-base-requires-clause-may
peek-base-requires-clause-may c =
    let hit = at_hit c.args.table.now c.args.number _ _ c.args.level c.args.at c.args.owner _ _ c.args.under.now c.in_ok-row.ensures.first (omega (arith, c.if-at-lo.false)) c.requires.row c.peek-lo.ensures in
    may_peek_base c.args.table.now c.args.number _ c.args.pass.now c.args.level c.args.at c.args.owner _ 0 c.args.under.now c.in_ok-row.ensures.first _ hit

pub returns : goal.returns
returns c =
    let hit = at_hit c.args.table.now c.args.number _ _ c.args.level c.args.at c.args.owner _ _ c.args.under.now c.in_ok-row.ensures.first (omega (arith, c.if-at-lo.false)) c.requires.row c.peek-lo.ensures in
    let met = at_met c.args.table.now c.args.number _ _ c.args.level c.args.at c.args.owner _ _ c.args.under.now c.in_ok-row.ensures.first _ _ c.saturating_sub-ahead.ensures hit c.peek-base.ensures in
    record { got = met }
