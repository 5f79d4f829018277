use Rattle.std.proofs.Common.{◌<◌, Some, None, arith}
use Rattle.fn_future.specs.Views.{CallView}
use Rattle.fn_future.specs.Calls.{HasStarted}
use Rattle.fn_future.proofs.Between.{started, is_for, refused_none}
use Rattle.fn_future.proofs.underway.Underway.start.Goals as goal

pub invariant_of-result : goal.invariant_of-result
invariant_of-result c =
    started c.args.table.now c.args.pass c.args.kind c.args.amount c.in-Waiting.pending c.requires.together c.number-number.ensures.legal c.requires.idle c.in-Waiting.ensures c.of-given.result.value c.of.result.value c.of-in-Waiting.result.value c.of-given.ensures
    c.of.ensures c.of-in-Waiting.ensures

pub returns-in-Waiting : goal.returns-in-Waiting
returns-in-Waiting c =
    let call : CallView = record { table = c.args.table.now; given = c.of-given.result.value; kind = c.of.result.value; amount = c.of-in-Waiting.result.value; pending = Some c.in-Waiting.pending; why = None } in
    let way : HasStarted c.args.table.now c.args.pass c.args.kind c.args.amount call = (
      c.in-Waiting.pending,
      c.in-Waiting.ensures,
      (λ i.
          let v : CallView = record { table = c.args.table.now; given = c.of-given.ensures i; kind = c.of.ensures i; amount = c.of-in-Waiting.ensures i; pending = Some c.in-Waiting.pending; why = None } in v),
    ) in
    record { call = is_for c.args.table.now c.args.pass c.args.kind c.args.amount call way; refused = tt; way = way }

pub returns-in-NoRow-clause-refused : goal.returns-in-NoRow-clause-refused
returns-in-NoRow-clause-refused c =
    let inside : c.args.pass.number < c.args.pass.seen.start.shape.passes = omega (arith, c.number-number.ensures.number, c.number-number.ensures.in_range) in
    refused_none c.args.pass c.args.kind c.args.amount c.in-NoRow.pass c.in-NoRow.blocked inside c.requires.idle c.in-NoRow.ensures
