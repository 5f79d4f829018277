use Rattle.std.proofs.Common.{None, false, refl, sym, subst}
use Rattle.fn_model.specs.declared.Kind.TheVariants.{Read}
use Rattle.fn_table.specs.Seen.{TableView, IsOf}
use Rattle.quota_pool.specs.declared.moved.Moved.{Moved}
use Rattle.quota_pool.specs.Calls.{Called}
use Rattle.quota_pool.proofs.Calling.{had_at, made_at, went_at, room_stays, rests_at, read_by}
use Rattle.quota_pool.proofs.desks.Desk.read.Goals as goal

pub read-before-requires-clause-together : goal.read-before-requires-clause-together
read-before-requires-clause-together c =
    subst (λ (t : TableView). IsOf t c.index_mut-pass.result.now) (sym c.table.ensures)
    (c.requires.together.each c.args.tenant c.funnel-funnel.result.now c.index_mut-pass.result.now c.funnel-funnel.ensures (had_at c.args.self.now c.self.inside.worker c.self.inside.passes.items c.args.tenant c.index_mut-pass.result.now c.index_mut-pass.result.now c.self.view_is c.requires.tenant c.index_mut-pass.ensures.value)).0

pub read-before-requires-clause-idle : goal.read-before-requires-clause-idle
read-before-requires-clause-idle c = rests_at c.args.pool.now c.args.self.now c.args.tenant c.funnel-funnel.result.now c.index_mut-pass.result.now c.requires.together c.funnel-funnel.ensures (had_at c.args.self.now c.self.inside.worker c.self.inside.passes.items c.args.tenant c.index_mut-pass.result.now c.index_mut-pass.result.now c.self.view_is c.requires.tenant c.index_mut-pass.ensures.value)

pub invariant_of-self : goal.invariant_of-self
invariant_of-self c =
    let answer : Moved = record { before = c.read-before.result; moved = 0; way = None } in
    room_stays c.args.self.now c.self.inside.worker c.self.inside.passes.items c.args.tenant c.index_mut-pass.result.now c.read-before.new.pass c.self.view_is c.requires.tenant c.index_mut-pass.ensures.value c.self.inside.closing c.self.invariant c.args.pool.now c.requires.together Read 0 answer c.read-before.ensures.made refl

pub returns-clause-made : goal.returns-clause-made
returns-clause-made c =
    let answer : Moved = record { before = c.read-before.result; moved = 0; way = None } in
    made_at c.args.self.now c.self.inside.worker c.self.inside.passes.items c.args.tenant c.index_mut-pass.result.now c.read-before.new.pass c.self.view_is c.requires.tenant c.index_mut-pass.ensures.value c.args.pool.now c.requires.together Read 0 answer c.read-before.ensures.made refl

pub returns-clause-way : goal.returns-clause-way
returns-clause-way c =
    let answer : Moved = record { before = c.read-before.result; moved = 0; way = None } in
    let called : Called c.index_mut-pass.result.now Read false 0 answer c.read-before.new.pass = read_by c.index_mut-pass.result.now c.read-before.new.pass c.read-before.result c.read-before.ensures.step c.read-before.ensures.called c.read-before.ensures.alone in
    went_at c.args.self.now c.self.inside.worker c.self.inside.passes.items c.args.tenant c.index_mut-pass.result.now c.read-before.new.pass c.self.view_is c.requires.tenant c.index_mut-pass.ensures.value Read false 0 answer called
