use Rattle.std.proofs.Common.{◌≡◌, drop}
use Rattle.quota_pool.specs.Faults.{too_much_from}
use Rattle.quota_pool.proofs.faults.too_much.Given as goal

abbrev pub invariant-loop-tenant : goal.invariant-loop-tenant
invariant-loop-tenant l = too_much_from 0 l.openings l.plans ≡ too_much_from l.tenant (drop l.tenant l.openings) (drop l.tenant l.plans)
