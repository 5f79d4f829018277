use Rattle.std.proofs.Common.{take}
use Rattle.tq_queue.specs.Seen.{IsOf}
use Rattle.relay_run.specs.Work.{Advances, first_lines}
use Rattle.relay_run.proofs.workers.work.Given as goal

abbrev pub invariant-loop-place : goal.invariant-loop-place
invariant-loop-place g l =
    IsOf l.queue l.desk.pass × Advances l.fn.desk l.desk (take l.place l.tickets) (first_lines l.share.workers l.share.worker l.place)
