use Rattle.std.proofs.Common.{refl, sym, ap, ◌∙◌}
use Rattle.fn_rows.specs.Machine as rows
use Rattle.fn_rows.specs.Aggregator.{end_held}
use Rattle.fn_core.proofs.Reached.{climbs_slot}
use Rattle.fn_core.proofs.Taken.{in_rows, may_there, steps_there}
use Rattle.fn_core.proofs.Seats.{member_there, stage_there}
use Rattle.fn_core.proofs.machine.Machine.publish.Goals as goal

pub seat-place-requires : goal.seat-place-requires
seat-place-requires c = climbs_slot c.args.self.now c.requires.0 c.requires.1 c.args.pass c.requires.2.0 c.args.kind c.args.level c.requires.2.1.0

pub index-requires : goal.index-requires
index-requires c = in_rows c.args.self.now c.requires.0 c.requires.1 c.args.pass c.args.kind c.args.level (climbs_slot c.args.self.now c.requires.0 c.requires.1 c.args.pass c.requires.2.0 c.args.kind c.args.level c.requires.2.1.0) _ c.seat-place.ensures.place

pub stage-requires : goal.stage-requires
stage-requires c =
    member_there c.args.self.now c.requires.0 c.requires.1 c.args.pass c.args.kind c.args.level (climbs_slot c.args.self.now c.requires.0 c.requires.1 c.args.pass c.requires.2.0 c.args.kind c.args.level c.requires.2.1.0) _ _ c.seat-place.ensures.place c.index.ensures _ c.seat-place.ensures.member

pub index_mut-requires : goal.index_mut-requires
index_mut-requires c = in_rows c.args.self.now c.requires.0 c.requires.1 c.args.pass c.args.kind c.args.level (climbs_slot c.args.self.now c.requires.0 c.requires.1 c.args.pass c.requires.2.0 c.args.kind c.args.level c.requires.2.1.0) _ c.seat-place.ensures.place

pub publish-requires-clause-may : goal.publish-requires-clause-may
publish-requires-clause-may c =
    may_there c.args.self.now c.requires.0 c.requires.1 c.args.pass c.args.kind c.args.level (climbs_slot c.args.self.now c.requires.0 c.requires.1 c.args.pass c.requires.2.0 c.args.kind c.args.level c.requires.2.1.0) _ _ c.seat-place.ensures.place c.index_mut.ensures.value _ c.seat-place.ensures.member (λ n. rows.Publish n) refl c.requires.2.1.1

pub publish-requires-clause-end : goal.publish-requires-clause-end
publish-requires-clause-end c =
    let slot = climbs_slot c.args.self.now c.requires.0 c.requires.1 c.args.pass c.requires.2.0 c.args.kind c.args.level c.requires.2.1.0 in
    let here = stage_there c.args.self.now c.requires.0 c.requires.1 c.args.pass c.args.kind c.args.level slot _ _ c.seat-place.ensures.place c.index_mut.ensures.value _ c.seat-place.ensures.member in
    let read = stage_there c.args.self.now c.requires.0 c.requires.1 c.args.pass c.args.kind c.args.level slot _ _ c.seat-place.ensures.place c.index.ensures _ c.seat-place.ensures.member in
    ap end_held (here ∙ sym read ∙ sym c.stage.ensures ∙ c.in-Pointed.is)

pub returns-in-Pointed-clause-takes : goal.returns-in-Pointed-clause-takes
returns-in-Pointed-clause-takes c = λ log stands may. (
    let slot = climbs_slot c.args.self.now log stands c.args.pass may.0 c.args.kind c.args.level may.1.0 in (
      steps_there c.args.self.now log stands c.args.pass c.args.kind c.args.level slot _ _ _ c.seat-place.ensures.place c.index_mut.ensures.value _ c.seat-place.ensures.member (λ n. rows.Publish n) c.publish.ensures,
      refl,
    )
    )

pub returns-in_default : goal.returns-in_default
returns-in_default c =
    let slot = climbs_slot c.args.self.now c.requires.0 c.requires.1 c.args.pass c.requires.2.0 c.args.kind c.args.level c.requires.2.1.0 in
    let read = stage_there c.args.self.now c.requires.0 c.requires.1 c.args.pass c.args.kind c.args.level slot _ _ c.seat-place.ensures.place c.index.ensures _ c.seat-place.ensures.member in
    absurd (c.in_default.not-Pointed _ _ _ _ (c.stage.ensures ∙ read ∙ c.requires.2.1.1.4))
