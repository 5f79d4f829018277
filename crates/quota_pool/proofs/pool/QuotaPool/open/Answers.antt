use Rattle.std.proofs.Common.{◌∙◌, refl, sym, inr}
use Rattle.quota_pool.proofs.Opens.{no_fault}
use Rattle.quota_pool.proofs.pool.QuotaPool.open.Goals as goal

pub returns-in_default-vec-clause-faults : goal.returns-in_default-vec-clause-faults
returns-in_default-vec-clause-faults c = inr (no_fault c.args.openings.now c.args.plans.now c.requires.one_each (sym c.too_much.ensures ∙ c.in_default.is), refl)
