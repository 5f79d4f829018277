use Rattle.std.proofs.Common.{refl}
use Rattle.fn_rows.specs.Machine as rows
use Rattle.fn_core.proofs.Reached.{climbs_slot}
use Rattle.fn_core.proofs.Taken.{in_rows, may_there, steps_there}
use Rattle.fn_core.proofs.Seats.{stage_there, point_row}
use Rattle.fn_core.proofs.machine.Machine.point.Goals as goal

pub seat-place-requires : goal.seat-place-requires
seat-place-requires c = climbs_slot c.args.self.now c.requires.0 c.requires.1 c.args.pass c.requires.2.0 c.args.kind c.args.level c.requires.2.1.0.0

pub local_row-number-requires : goal.local_row-number-requires
local_row-number-requires c =
    let slot = climbs_slot c.args.self.now c.requires.0 c.requires.1 c.args.pass c.requires.2.0 c.args.kind c.args.level c.requires.2.1.0.0 in
    record { slot = (slot.0, slot.2) }

pub index_mut-requires : goal.index_mut-requires
index_mut-requires c =
    in_rows c.args.self.now c.requires.0 c.requires.1 c.args.pass c.args.kind c.args.level (climbs_slot c.args.self.now c.requires.0 c.requires.1 c.args.pass c.requires.2.0 c.args.kind c.args.level c.requires.2.1.0.0) _ c.seat-place.ensures.place

pub point-requires-clause-may : goal.point-requires-clause-may
point-requires-clause-may c =
    may_there c.args.self.now c.requires.0 c.requires.1 c.args.pass c.args.kind c.args.level (climbs_slot c.args.self.now c.requires.0 c.requires.1 c.args.pass c.requires.2.0 c.args.kind c.args.level c.requires.2.1.0.0) _ _ c.seat-place.ensures.place c.index_mut.ensures.value _ c.seat-place.ensures.member (λ n. rows.Point n) refl c.requires.2.1.0.1

pub point-requires-clause-row : goal.point-requires-clause-row
point-requires-clause-row c =
    point_row c.args.self.now c.requires.0 c.args.pass c.args.kind c.args.level c.args.row c.requires.2 _
    (stage_there c.args.self.now c.requires.0 c.requires.1 c.args.pass c.args.kind c.args.level (climbs_slot c.args.self.now c.requires.0 c.requires.1 c.args.pass c.requires.2.0 c.args.kind c.args.level c.requires.2.1.0.0) _ _ c.seat-place.ensures.place c.index_mut.ensures.value _ c.seat-place.ensures.member)
    _ c.local_row-number.ensures

pub returns-clause-takes : goal.returns-clause-takes
returns-clause-takes c = λ log stands may. (
    let slot = climbs_slot c.args.self.now log stands c.args.pass may.0 c.args.kind c.args.level may.1.0.0 in (
      steps_there c.args.self.now log stands c.args.pass c.args.kind c.args.level slot _ _ _ c.seat-place.ensures.place c.index_mut.ensures.value _ c.seat-place.ensures.member (λ n. rows.Point n) c.point.ensures,
      refl,
    )
    )
