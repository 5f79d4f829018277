use Rattle.std.proofs.Common.{◌≡◌, take, drop}
use Rattle.throttle_run.specs.Work.{lines_in, MayRun, Ran}
use Rattle.throttle_run.proofs.workers.work.Given as goal

abbrev pub invariant-loop-job : goal.invariant-loop-job
invariant-loop-job g l = record {
  before_callable : goal.B-IsAlwaysCallable g l.before;
  after_callable : goal.A-IsAlwaysCallable g l.answered;
  ran : Ran l.bucket l.fn.desk (take l.job-index l.jobs) l.desk;
  lines : lines_in l.jobs ≡ lines_in l.fn.jobs;
  may : MayRun l.bucket l.desk (lines_in (drop l.job-index l.jobs));
}
