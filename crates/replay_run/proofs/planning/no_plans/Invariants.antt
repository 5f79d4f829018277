use Rattle.std.proofs.Common.{◌≡◌, replicate}
use Rattle.replay_run.proofs.planning.no_plans.Given as goal

abbrev pub invariant-loop : goal.invariant-loop
invariant-loop l = l.plans.items ≡ replicate l.counter (replicate l.workers 0)
