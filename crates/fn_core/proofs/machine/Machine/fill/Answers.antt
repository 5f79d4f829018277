use Rattle.std.proofs.Common.{refl, sym, ap, ◌∙◌}
use Rattle.fn_rows.specs.Machine as rows
use Rattle.fn_core.specs.Machine.{word_of}
use Rattle.fn_core.proofs.Reached.{climbs_slot}
use Rattle.fn_core.proofs.Taken.{in_rows, may_there, steps_there}
use Rattle.fn_core.proofs.Seats.{member_there, stage_there, position_there, fill_may, filled_there}
use Rattle.fn_core.proofs.machine.Machine.fill.Goals as goal

pub seat-place-requires : goal.seat-place-requires
seat-place-requires c = climbs_slot c.args.self.now c.requires.0 c.requires.1 c.args.pass c.requires.2.0 c.in-Climbing.kind c.in-Climbing.level (position_there c.args.self.now c.requires.0 c.requires.1 c.args.pass c.requires.2.0 _ c.index.ensures ∙ c.in-Climbing.is)

pub index-requires-in-Climbing : goal.index-requires-in-Climbing
index-requires-in-Climbing c =
    in_rows c.args.self.now c.requires.0 c.requires.1 c.args.pass c.in-Climbing.kind c.in-Climbing.level (climbs_slot c.args.self.now c.requires.0 c.requires.1 c.args.pass c.requires.2.0 c.in-Climbing.kind c.in-Climbing.level (position_there c.args.self.now c.requires.0 c.requires.1 c.args.pass c.requires.2.0 _ c.index.ensures ∙ c.in-Climbing.is)) _ c.seat-place.ensures.place

pub stage-requires : goal.stage-requires
stage-requires c =
    member_there c.args.self.now c.requires.0 c.requires.1 c.args.pass c.in-Climbing.kind c.in-Climbing.level (climbs_slot c.args.self.now c.requires.0 c.requires.1 c.args.pass c.requires.2.0 c.in-Climbing.kind c.in-Climbing.level (position_there c.args.self.now c.requires.0 c.requires.1 c.args.pass c.requires.2.0 _ c.index.ensures ∙ c.in-Climbing.is)) _ _ c.seat-place.ensures.place c.index-in-Climbing.ensures _ c.seat-place.ensures.member

pub local_row-number-requires : goal.local_row-number-requires
local_row-number-requires c =
    let slot = climbs_slot c.args.self.now c.requires.0 c.requires.1 c.args.pass c.requires.2.0 c.in-Climbing.kind c.in-Climbing.level (position_there c.args.self.now c.requires.0 c.requires.1 c.args.pass c.requires.2.0 _ c.index.ensures ∙ c.in-Climbing.is) in
    record { slot = (slot.0, slot.2) }

pub index_mut-requires : goal.index_mut-requires
index_mut-requires c =
    in_rows c.args.self.now c.requires.0 c.requires.1 c.args.pass c.in-Climbing.kind c.in-Climbing.level (climbs_slot c.args.self.now c.requires.0 c.requires.1 c.args.pass c.requires.2.0 c.in-Climbing.kind c.in-Climbing.level (position_there c.args.self.now c.requires.0 c.requires.1 c.args.pass c.requires.2.0 _ c.index.ensures ∙ c.in-Climbing.is)) _ c.seat-place.ensures.place

pub fill-requires : goal.fill-requires
fill-requires c =
    let position = (position_there c.args.self.now c.requires.0 c.requires.1 c.args.pass c.requires.2.0 _ c.index.ensures ∙ c.in-Climbing.is) in
    let slot = climbs_slot c.args.self.now c.requires.0 c.requires.1 c.args.pass c.requires.2.0 c.in-Climbing.kind c.in-Climbing.level position in
    let read = stage_there c.args.self.now c.requires.0 c.requires.1 c.args.pass c.in-Climbing.kind c.in-Climbing.level slot _ _ c.seat-place.ensures.place c.index-in-Climbing.ensures _ c.seat-place.ensures.member in
    may_there c.args.self.now c.requires.0 c.requires.1 c.args.pass c.in-Climbing.kind c.in-Climbing.level slot _ _ c.seat-place.ensures.place c.index_mut.ensures.value _ c.seat-place.ensures.member (λ n. rows.Fill n c.local_row-number.result c.args.field c.word_filled-word.result) refl
    (fill_may c.args.self.now c.requires.0 c.args.pass c.args.row c.args.field c.requires.2 c.in-Climbing.kind c.in-Climbing.level position _ _ c.local_row-number.ensures (c.word_filled-word.ensures ∙ ap (word_of c.args.field) (c.stage.ensures ∙ read)))

pub returns-in-Climbing-clause-takes : goal.returns-in-Climbing-clause-takes
returns-in-Climbing-clause-takes c = λ log stands may. (
    let position = position_there c.args.self.now log stands c.args.pass may.0 _ c.index.ensures ∙ c.in-Climbing.is in
    let slot = climbs_slot c.args.self.now log stands c.args.pass may.0 c.in-Climbing.kind c.in-Climbing.level position in
    let read = stage_there c.args.self.now log stands c.args.pass c.in-Climbing.kind c.in-Climbing.level slot _ _ c.seat-place.ensures.place c.index-in-Climbing.ensures _ c.seat-place.ensures.member in (
      filled_there c.args.self.now log c.args.pass c.args.row c.args.field may c.in-Climbing.kind c.in-Climbing.level position _ _ _ c.local_row-number.ensures (c.word_filled-word.ensures ∙ ap (word_of c.args.field) (c.stage.ensures ∙ read))
          (steps_there c.args.self.now log stands c.args.pass c.in-Climbing.kind c.in-Climbing.level slot _ _ _ c.seat-place.ensures.place c.index_mut.ensures.value _ c.seat-place.ensures.member (λ n. rows.Fill n c.local_row-number.result c.args.field c.word_filled-word.result) c.fill.ensures),
      refl,
    )
    )

pub returns-in_default : goal.returns-in_default
returns-in_default c =
    absurd (c.in_default.not-Climbing _ _ (sym (position_there c.args.self.now c.requires.0 c.requires.1 c.args.pass c.requires.2.0 _ c.index.ensures) ∙ c.requires.2.1.3.0))
