use Rattle.std.proofs.Common.{take}
use Rattle.throttle_run.proofs.Gathered.{HaveCome}
use Rattle.throttle_run.proofs.gathering.answers.Given as goal

abbrev pub invariant-loop-line : goal.invariant-loop-line
invariant-loop-line l = HaveCome l.all (take l.line-index l.lines) l.next.items l.answers.items
