use Rattle.std.proofs.Common.{◌≡◌, map}
use Rattle.throttle_run.specs.Work.{bare}
use Rattle.throttle_run.proofs.workers.bare_workers.Given as goal

abbrev pub invariant-loop-desk : goal.invariant-loop-desk
invariant-loop-desk l = l.all.items ≡ map bare l.yielded
