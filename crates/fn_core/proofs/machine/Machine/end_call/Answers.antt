use Rattle.std.proofs.Common.{refl}
use Rattle.fn_rows.specs.Machine as rows
use Rattle.fn_core.proofs.Reached.{climbs_slot}
use Rattle.fn_core.proofs.Taken.{in_rows, in_standings, may_there, steps_there, goes_there}
use Rattle.fn_core.proofs.machine.Machine.end_call.Goals as goal

pub seat-place-requires : goal.seat-place-requires
seat-place-requires c = climbs_slot c.args.self.now c.requires.0 c.requires.1 c.args.pass c.requires.2.0 c.args.kind 1 c.requires.2.1.0

pub index_mut-requires : goal.index_mut-requires
index_mut-requires c = in_rows c.args.self.now c.requires.0 c.requires.1 c.args.pass c.args.kind 1 (climbs_slot c.args.self.now c.requires.0 c.requires.1 c.args.pass c.requires.2.0 c.args.kind 1 c.requires.2.1.0) _ c.seat-place.ensures.place

pub leave-requires : goal.leave-requires
leave-requires c =
    may_there c.args.self.now c.requires.0 c.requires.1 c.args.pass c.args.kind 1 (climbs_slot c.args.self.now c.requires.0 c.requires.1 c.args.pass c.requires.2.0 c.args.kind 1 c.requires.2.1.0) _ _ c.seat-place.ensures.place c.index_mut.ensures.value _ c.seat-place.ensures.member (λ n. rows.Leave n) refl c.requires.2.1.1

pub index_mut-requires-2 : goal.index_mut-requires-2
index_mut-requires-2 c = in_standings c.args.self.now c.requires.0 c.requires.1 c.args.pass c.requires.2.0

pub returns-clause-takes : goal.returns-clause-takes
returns-clause-takes c = λ log stands may. (
    let slot = climbs_slot c.args.self.now log stands c.args.pass may.0 c.args.kind 1 may.1.0 in
    let stepped = steps_there c.args.self.now log stands c.args.pass c.args.kind 1 slot _ _ _ c.seat-place.ensures.place c.index_mut.ensures.value _ c.seat-place.ensures.member (λ n. rows.Leave n) c.leave.ensures in
    (goes_there _ _ stepped c.args.pass may.0 _ c.index_mut-2.ensures.value _, refl)
    )
