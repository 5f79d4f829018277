use Rattle.std.proofs.Common.{take}
use Rattle.throttle_run.proofs.Allowed.{AreAllowed}
use Rattle.throttle_run.proofs.allowing.allowances.Given as goal

abbrev pub invariant-loop-line : goal.invariant-loop-line
invariant-loop-line l = AreAllowed l.workers l.burst (take l.line-index l.lines) l.all.items
