use Rattle.fn_climb.proofs.Every.{EverySoFar}
use Rattle.fn_climb.proofs.beginning.find_rows.Given as goal

abbrev pub invariant-loop-level : goal.invariant-loop-level
invariant-loop-level l = EverySoFar l.fn.pass l.kind l.level l.rows l.pass
