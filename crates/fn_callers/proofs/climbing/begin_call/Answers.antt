use Rattle.std.proofs.Common.{◌<◌, arith}
use Rattle.fn_callers.proofs.Between.{has_come, refused_none}
use Rattle.fn_callers.proofs.climbing.begin_call.Goals as goal

pub returns-in-Waiting-clause-come : goal.returns-in-Waiting-clause-come
returns-in-Waiting-clause-come c =
    has_come c.args.pass c.args.kind c.args.amount c.in-Waiting.pending c.number-legal.ensures.legal c.requires.rests c.in-Waiting.ensures c.of-given.result.value c.of-given.ensures

pub returns-in-NoRow-clause-none : goal.returns-in-NoRow-clause-none
returns-in-NoRow-clause-none c =
    let inside : c.args.pass.number < c.args.pass.seen.start.shape.passes = omega (arith, c.number-legal.ensures.number, c.number-legal.ensures.in_range) in
    refused_none c.args.pass c.args.kind c.args.amount c.in-NoRow.pass c.in-NoRow.field-1 inside c.requires.rests c.in-NoRow.ensures
