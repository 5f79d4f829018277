use Rattle.fn_climb.proofs.Scans.{MembersSoFar}
use Rattle.fn_climb.proofs.beginning.try_row.Given as goal

abbrev pub invariant-loop-member : goal.invariant-loop-member
invariant-loop-member l = MembersSoFar l.fn.pass l.kind l.level l.row l.member l.pass
