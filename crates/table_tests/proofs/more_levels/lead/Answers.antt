use Rattle.std.proofs.Common.{sym}
use Rattle.table_tests.proofs.Levels.{may_close, at_looked, at_shut, leads_now}
use Rattle.table_tests.proofs.more_levels.lead.Goals as goal

pub close_batch-end-requires-clause-may : goal.close_batch-end-requires-clause-may
close_batch-end-requires-clause-may c =
    let led = at_looked c.args.table.now c.args.number _ _ c.args.level _ c.args.under.now c.args.at _ (leads_now c.args.at _ (sym c.if-done-at.false)) c.requires.waits c.look-done.ensures in
    may_close c.args.table.now c.args.number _ c.args.level c.args.under.now _ led

pub returns : goal.returns
returns c =
    let led = at_looked c.args.table.now c.args.number _ _ c.args.level _ c.args.under.now c.args.at _ (leads_now c.args.at _ (sym c.if-done-at.false)) c.requires.waits c.look-done.ensures in
    record { shut = at_shut c.args.table.now c.args.number _ _ c.args.level _ c.args.under.now _ led c.close_batch-end.ensures }
