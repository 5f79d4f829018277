use Rattle.std.proofs.Common.{ℕ, ◌≤◌, Some, true, sym, subst, ◌∙◌}
use Rattle.fn_model.specs.declared.Kind.TheVariants.{Add}
use Rattle.quota_pool.specs.declared.moved.Moved.{Moved}
use Rattle.quota_pool.specs.Calls.{Called}
use Rattle.quota_pool.proofs.Calling.{had_at, made_at, went_at, room_stays, cap_is, moved_so, waited_by}
use Rattle.quota_pool.proofs.desks.Desk.add.Goals as goal

pub overflow_sub-cap : goal.overflow_sub-cap
overflow_sub-cap g c =
    let cap = cap_is c.args.pool.now c.args.self.now c.args.tenant c.funnel-funnel.result.now c.index_mut-pass.result.now c.requires.together c.funnel-funnel.ensures (had_at c.args.self.now c.self.inside.worker c.self.inside.passes.items c.args.tenant c.index_mut-pass.result.now c.add_on-added.new.pass c.self.view_is c.requires.tenant c.index_mut-pass.ensures.value) in
    subst (λ (n : ℕ). c.add_on-added.result.before ≤ n) (cap ∙ sym c.cap.ensures) c.add_on-added.ensures.made.within

pub invariant_of-self : goal.invariant_of-self
invariant_of-self g c =
    let answer : Moved = record { before = c.add_on-added.result.before; moved = c.min.result; way = Some c.add_on-added.result.way } in
    let cap = cap_is c.args.pool.now c.args.self.now c.args.tenant c.funnel-funnel.result.now c.index_mut-pass.result.now c.requires.together c.funnel-funnel.ensures (had_at c.args.self.now c.self.inside.worker c.self.inside.passes.items c.args.tenant c.index_mut-pass.result.now c.add_on-added.new.pass c.self.view_is c.requires.tenant c.index_mut-pass.ensures.value) in
    let moved = moved_so c.index_mut-pass.result.now c.args.amount answer.before c.min.result c.cap.result (cap ∙ sym c.cap.ensures) c.min.ensures in
    room_stays c.args.self.now c.self.inside.worker c.self.inside.passes.items c.args.tenant c.index_mut-pass.result.now c.add_on-added.new.pass c.self.view_is c.requires.tenant c.index_mut-pass.ensures.value c.self.inside.closing c.self.invariant c.args.pool.now c.requires.together Add c.args.amount answer c.add_on-added.ensures.made moved

pub returns-clause-made : goal.returns-clause-made
returns-clause-made g c =
    let answer : Moved = record { before = c.add_on-added.result.before; moved = c.min.result; way = Some c.add_on-added.result.way } in
    let cap = cap_is c.args.pool.now c.args.self.now c.args.tenant c.funnel-funnel.result.now c.index_mut-pass.result.now c.requires.together c.funnel-funnel.ensures (had_at c.args.self.now c.self.inside.worker c.self.inside.passes.items c.args.tenant c.index_mut-pass.result.now c.add_on-added.new.pass c.self.view_is c.requires.tenant c.index_mut-pass.ensures.value) in
    let moved = moved_so c.index_mut-pass.result.now c.args.amount answer.before c.min.result c.cap.result (cap ∙ sym c.cap.ensures) c.min.ensures in
    made_at c.args.self.now c.self.inside.worker c.self.inside.passes.items c.args.tenant c.index_mut-pass.result.now c.add_on-added.new.pass c.self.view_is c.requires.tenant c.index_mut-pass.ensures.value c.args.pool.now c.requires.together Add c.args.amount answer c.add_on-added.ensures.made moved

pub returns-clause-way : goal.returns-clause-way
returns-clause-way g c =
    let answer : Moved = record { before = c.add_on-added.result.before; moved = c.min.result; way = Some c.add_on-added.result.way } in
    let cap = cap_is c.args.pool.now c.args.self.now c.args.tenant c.funnel-funnel.result.now c.index_mut-pass.result.now c.requires.together c.funnel-funnel.ensures (had_at c.args.self.now c.self.inside.worker c.self.inside.passes.items c.args.tenant c.index_mut-pass.result.now c.add_on-added.new.pass c.self.view_is c.requires.tenant c.index_mut-pass.ensures.value) in
    let moved = moved_so c.index_mut-pass.result.now c.args.amount answer.before c.min.result c.cap.result (cap ∙ sym c.cap.ensures) c.min.ensures in
    let called : Called c.index_mut-pass.result.now Add true c.args.amount answer c.add_on-added.new.pass = waited_by c.index_mut-pass.result.now c.add_on-added.new.pass Add c.args.amount c.add_on-added.result c.min.result c.add_on-added.ensures.way moved in
    went_at c.args.self.now c.self.inside.worker c.self.inside.passes.items c.args.tenant c.index_mut-pass.result.now c.add_on-added.new.pass c.self.view_is c.requires.tenant c.index_mut-pass.ensures.value Add true c.args.amount answer called
