use Rattle.throttle_run.proofs.Ready.{have_done}
use Rattle.throttle_run.proofs.throttling.throttle.Goals as goal

pub finish-requires-clause-done : goal.finish-requires-clause-done
finish-requires-clause-done g c =
    have_done c.in_ok-bucket.bucket c.args.lines.now c.in_ok-bucket.all.items c.worked-all.result.items c.in_ok-bucket.ensures.ready c.worked-all.ensures.count c.worked-all.ensures.each
