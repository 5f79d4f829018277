use Rattle.std.proofs.Common.{take}
use Rattle.replay_run.specs.Ready.{ArePlanned}
use Rattle.replay_run.proofs.planning.plan_rows.Given as goal

abbrev pub invariant-loop-row : goal.invariant-loop-row
invariant-loop-row l = ArePlanned (take l.row-index l.rows) l.tenants l.workers l.plans.items
