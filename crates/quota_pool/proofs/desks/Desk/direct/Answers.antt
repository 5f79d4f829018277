use Rattle.std.proofs.Common.{None, ℕ, min, false, sym, ap, ◌∙◌}
use Rattle.fn_model.specs.declared.Kind.TheVariants.{Add}
use Rattle.fn_table.proofs.Claims.{made_since}
use Rattle.quota_pool.specs.declared.moved.Moved.{Moved}
use Rattle.quota_pool.specs.Calls.{Called}
use Rattle.quota_pool.proofs.Calling.{had_at, made_at, went_at, room_stays, cap_is, rests_at, moved_so, directed_by}
use Rattle.quota_pool.proofs.desks.Desk.direct.Goals as goal

pub invariant_of-self : goal.invariant_of-self
invariant_of-self g c =
    let answer : Moved = record { before = c.go_straight-before.result; moved = c.min.result; way = None } in
    let cap = cap_is c.args.pool.now c.args.self.now c.args.tenant c.funnel-funnel.result.now c.index_mut-pass.result.now c.requires.together c.funnel-funnel.ensures (had_at c.args.self.now c.self.inside.worker c.self.inside.passes.items c.args.tenant c.index_mut-pass.result.now c.go_straight-before.new.pass c.self.view_is c.requires.tenant c.index_mut-pass.ensures.value) in
    let moved = moved_so c.index_mut-pass.result.now c.args.amount answer.before c.min.result c.cap.result (cap ∙ sym c.cap.ensures) (c.min.ensures ∙ ap (λ (n : ℕ). min c.args.amount n) c.saturating_sub.ensures) in
    let rests = rests_at c.args.pool.now c.args.self.now c.args.tenant c.funnel-funnel.result.now c.index_mut-pass.result.now c.requires.together c.funnel-funnel.ensures (had_at c.args.self.now c.self.inside.worker c.self.inside.passes.items c.args.tenant c.index_mut-pass.result.now c.go_straight-before.new.pass c.self.view_is c.requires.tenant c.index_mut-pass.ensures.value) in
    let made = made_since c.index_mut-pass.result.now Add c.args.amount answer.before c.go_straight-before.new.pass rests c.go_straight-before.ensures.later c.go_straight-before.ensures.called in
    room_stays c.args.self.now c.self.inside.worker c.self.inside.passes.items c.args.tenant c.index_mut-pass.result.now c.go_straight-before.new.pass c.self.view_is c.requires.tenant c.index_mut-pass.ensures.value c.self.inside.closing c.self.invariant c.args.pool.now c.requires.together Add c.args.amount answer made moved

pub returns-clause-made : goal.returns-clause-made
returns-clause-made g c =
    let answer : Moved = record { before = c.go_straight-before.result; moved = c.min.result; way = None } in
    let cap = cap_is c.args.pool.now c.args.self.now c.args.tenant c.funnel-funnel.result.now c.index_mut-pass.result.now c.requires.together c.funnel-funnel.ensures (had_at c.args.self.now c.self.inside.worker c.self.inside.passes.items c.args.tenant c.index_mut-pass.result.now c.go_straight-before.new.pass c.self.view_is c.requires.tenant c.index_mut-pass.ensures.value) in
    let moved = moved_so c.index_mut-pass.result.now c.args.amount answer.before c.min.result c.cap.result (cap ∙ sym c.cap.ensures) (c.min.ensures ∙ ap (λ (n : ℕ). min c.args.amount n) c.saturating_sub.ensures) in
    let rests = rests_at c.args.pool.now c.args.self.now c.args.tenant c.funnel-funnel.result.now c.index_mut-pass.result.now c.requires.together c.funnel-funnel.ensures (had_at c.args.self.now c.self.inside.worker c.self.inside.passes.items c.args.tenant c.index_mut-pass.result.now c.go_straight-before.new.pass c.self.view_is c.requires.tenant c.index_mut-pass.ensures.value) in
    let made = made_since c.index_mut-pass.result.now Add c.args.amount answer.before c.go_straight-before.new.pass rests c.go_straight-before.ensures.later c.go_straight-before.ensures.called in
    made_at c.args.self.now c.self.inside.worker c.self.inside.passes.items c.args.tenant c.index_mut-pass.result.now c.go_straight-before.new.pass c.self.view_is c.requires.tenant c.index_mut-pass.ensures.value c.args.pool.now c.requires.together Add c.args.amount answer made moved

pub returns-clause-way : goal.returns-clause-way
returns-clause-way g c =
    let answer : Moved = record { before = c.go_straight-before.result; moved = c.min.result; way = None } in
    let cap = cap_is c.args.pool.now c.args.self.now c.args.tenant c.funnel-funnel.result.now c.index_mut-pass.result.now c.requires.together c.funnel-funnel.ensures (had_at c.args.self.now c.self.inside.worker c.self.inside.passes.items c.args.tenant c.index_mut-pass.result.now c.go_straight-before.new.pass c.self.view_is c.requires.tenant c.index_mut-pass.ensures.value) in
    let moved = moved_so c.index_mut-pass.result.now c.args.amount answer.before c.min.result c.cap.result (cap ∙ sym c.cap.ensures) (c.min.ensures ∙ ap (λ (n : ℕ). min c.args.amount n) c.saturating_sub.ensures) in
    let called : Called c.index_mut-pass.result.now Add false c.args.amount answer c.go_straight-before.new.pass = directed_by c.index_mut-pass.result.now c.go_straight-before.new.pass c.args.amount c.go_straight-before.result c.min.result c.go_straight-before.ensures.later c.go_straight-before.ensures.called c.go_straight-before.ensures.way moved c.go_straight-before.ensures.alone in
    went_at c.args.self.now c.self.inside.worker c.self.inside.passes.items c.args.tenant c.index_mut-pass.result.now c.go_straight-before.new.pass c.self.view_is c.requires.tenant c.index_mut-pass.ensures.value Add false c.args.amount answer called
