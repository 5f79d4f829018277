use Rattle.std.proofs.Common.{arith}
use Rattle.table_tests.proofs.Levels.{may_peek_lo, may_peek_prev, at_over, at_before}
use Rattle.table_tests.proofs.more_levels.go_over.Goals as goal

pub peek-lo-requires-clause-may : goal.peek-lo-requires-clause-may
peek-lo-requires-clause-may c = may_peek_lo c.args.table.now c.args.number c.args.pass.now c.args.pass.now c.args.level c.args.at c.args.owners.0 _ 0 c.args.under.now c.in_ok-row.ensures.first c.requires.row

pub peek-link-requires-clause-may : goal.peek-link-requires-clause-may
peek-link-requires-clause-may c =
    let over = at_over c.args.table.now c.args.number _ _ c.args.level c.args.at c.args.owners.0 _ _ c.args.under.now c.in_ok-row.ensures.first (omega (arith, c.if-lo-at.false)) c.requires.row c.peek-lo.ensures in
    may_peek_prev c.args.table.now c.args.number _ c.args.pass.now c.args.level c.args.at c.args.owners.0 _ 0 c.args.under.now c.in_ok-row.ensures.first over

pub returns : goal.returns
returns c =
    let over = at_over c.args.table.now c.args.number _ _ c.args.level c.args.at c.args.owners.0 _ _ c.args.under.now c.in_ok-row.ensures.first (omega (arith, c.if-lo-at.false)) c.requires.row c.peek-lo.ensures in
    let before = at_before c.args.table.now c.args.number _ _ c.args.level c.args.at c.args.owners.0 _ _ c.args.under.now c.in_ok-row.ensures.first c.args.owners.1 _ c.in_ok-before.ensures.first (omega (arith, c.if-link-from.false, c.from.ensures)) over c.peek-link.ensures in
    record { row = before }
