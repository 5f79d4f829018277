use Rattle.std.proofs.Common.{◌≡◌, drop}
use Rattle.relay_run.specs.Work.{line_of}
use Rattle.relay_run.specs.Filling.{filled}
use Rattle.relay_run.proofs.gathering.fill.Given as goal

abbrev pub invariant-loop-place : goal.invariant-loop-place
invariant-loop-place l =
    filled (line_of l.share.workers l.share.worker) l.place (drop l.place l.tickets) l.order ≡ filled (line_of l.share.workers l.share.worker) 0 l.tickets l.fn.order
