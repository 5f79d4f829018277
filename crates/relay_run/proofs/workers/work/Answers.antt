-- One more line was put.
use Rattle.std.proofs.Common.{arith}
use Rattle.relay_run.proofs.Moving.{line_put}
use Rattle.relay_run.proofs.workers.work.Goals as goal

pub loop-place-preserved : goal.loop-place-preserved
loop-place-preserved g c =
    let so_far = c.loop-place.invariant in (
      c.put-next.ensures.together,
      line_put c.args.desk c.loop-place.desk c.put-next.result.0 c.loop-place.tickets c.args.share.workers c.args.share.worker c.loop-place.place c.put-next.result.1 c.line-line.result (omega (arith, c.loop-place-test.true, c.loop-place.auto.tickets)) c.line-line.ensures so_far.1 c.put-next.ensures.outcome,
    )
