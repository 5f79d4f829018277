use Rattle.std.proofs.Common.{◌≡◌}
use Rattle.throttle_run.specs.Work.{desks_in}
use Rattle.throttle_run.proofs.gathering.leave.Given as goal

abbrev pub invariant-loop-worker : goal.invariant-loop-worker
invariant-loop-worker l = l.desks.items ≡ desks_in l.yielded
