use Rattle.std.proofs.Common.{◌∙◌, subst}
use Rattle.quota_pool.specs.Opened.{IsOpen}
use Rattle.quota_pool.proofs.Opens.{opens_new}
use Rattle.quota_pool.proofs.opening.open_tenant.Goals as goal

pub returns-in-Ok-clause-open : goal.returns-in-Ok-clause-open
returns-in-Ok-clause-open c =
    let plan = c.deref.ensures.value ∙ c.plan.view_is in
    subst (λ plan. IsOpen c.args.workers c.args.opening c.args.cap plan c.in-Ok.opened.0) plan
    (opens_new c.args.workers c.args.opening c.args.cap c.deref.result.now c.shape_for.result c.in-Ok.opened.0 c.in-Ok.opened.1.items c.shape_for.ensures c.in-Ok.ensures.funnel c.in-Ok.ensures.passes)
