use Rattle.std.proofs.Common.{◌≤◌, take, drop}
use Rattle.std.specs.Vec.{vec_capacity}
use Rattle.replay_run.specs.Work.{rows_at, MayRun, HasMade}
use Rattle.replay_run.proofs.working.work.Given as goal

abbrev pub invariant-loop-number : goal.invariant-loop-number
invariant-loop-number g l = record {
  made : HasMade l.pool l.fn.desk (take l.number-index (rows_at l.rows l.numbers)) l.fn.answers.items l.answers.items l.desk;
  may : MayRun l.pool l.desk (drop l.number-index (rows_at l.rows l.numbers));
  room : vec_capacity l.fn.answers ≤ vec_capacity l.answers;
}
