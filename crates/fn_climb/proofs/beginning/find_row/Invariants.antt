use Rattle.fn_climb.proofs.Levels.{LevelSoFar}
use Rattle.fn_climb.proofs.beginning.find_row.Given as goal

abbrev pub invariant-loop-row : goal.invariant-loop-row
invariant-loop-row l = LevelSoFar l.fn.pass l.kind l.level l.row l.last l.pass
