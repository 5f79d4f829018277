use Rattle.std.proofs.Common.{Some, true}
use Rattle.fn_model.specs.declared.Kind.TheVariants.{Sub}
use Rattle.quota_pool.specs.declared.moved.Moved.{Moved}
use Rattle.quota_pool.specs.Calls.{Called}
use Rattle.quota_pool.proofs.Calling.{made_at, went_at, room_stays, waited_by}
use Rattle.quota_pool.proofs.desks.Desk.take.Goals as goal

pub invariant_of-self : goal.invariant_of-self
invariant_of-self g c =
    let answer : Moved = record { before = c.sub_on-taken.result.before; moved = c.min.result; way = Some c.sub_on-taken.result.way } in
    let moved = c.min.ensures in
    room_stays c.args.self.now c.self.inside.worker c.self.inside.passes.items c.args.tenant c.index_mut-pass.result.now c.sub_on-taken.new.pass c.self.view_is c.requires.tenant c.index_mut-pass.ensures.value c.self.inside.closing c.self.invariant c.args.pool.now c.requires.together Sub c.args.amount answer c.sub_on-taken.ensures.made moved

pub returns-clause-made : goal.returns-clause-made
returns-clause-made g c =
    let answer : Moved = record { before = c.sub_on-taken.result.before; moved = c.min.result; way = Some c.sub_on-taken.result.way } in
    let moved = c.min.ensures in
    made_at c.args.self.now c.self.inside.worker c.self.inside.passes.items c.args.tenant c.index_mut-pass.result.now c.sub_on-taken.new.pass c.self.view_is c.requires.tenant c.index_mut-pass.ensures.value c.args.pool.now c.requires.together Sub c.args.amount answer c.sub_on-taken.ensures.made moved

pub returns-clause-way : goal.returns-clause-way
returns-clause-way g c =
    let answer : Moved = record { before = c.sub_on-taken.result.before; moved = c.min.result; way = Some c.sub_on-taken.result.way } in
    let moved = c.min.ensures in
    let called : Called c.index_mut-pass.result.now Sub true c.args.amount answer c.sub_on-taken.new.pass = waited_by c.index_mut-pass.result.now c.sub_on-taken.new.pass Sub c.args.amount c.sub_on-taken.result c.min.result c.sub_on-taken.ensures.way moved in
    went_at c.args.self.now c.self.inside.worker c.self.inside.passes.items c.args.tenant c.index_mut-pass.result.now c.sub_on-taken.new.pass c.self.view_is c.requires.tenant c.index_mut-pass.ensures.value Sub true c.args.amount answer called
