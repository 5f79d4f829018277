use Rattle.std.proofs.Common.{◌≡◌, drop}
use Rattle.quota_pool.specs.Faults.{above_cap_from}
use Rattle.quota_pool.proofs.faults.above_cap.Given as goal

abbrev pub invariant-loop-tenant : goal.invariant-loop-tenant
invariant-loop-tenant l = above_cap_from 0 l.openings l.caps ≡ above_cap_from l.tenant (drop l.tenant l.openings) (drop l.tenant l.caps)
