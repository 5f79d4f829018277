use Rattle.std.proofs.Common.{◌-◌, refl, ap, ◌∙◌}
use Rattle.fn_rows.specs.Machine as rows
use Rattle.fn_core.specs.State.{reply_of}
use Rattle.fn_core.proofs.Reached.{climbs_slot}
use Rattle.fn_core.proofs.Mirror.{here_may}
use Rattle.fn_core.proofs.Taken.{in_rows, in_standings, may_there, steps_there, goes_there}
use Rattle.fn_core.proofs.Seats.{member_there, stage_there, in_place, steps_in_place, lower_slot, lower_may, goes_down}
use Rattle.fn_core.proofs.machine.Machine.descend.Goals as goal

pub seat-place-requires : goal.seat-place-requires
seat-place-requires c = climbs_slot c.args.self.now c.requires.may.0 c.requires.may.1 c.args.pass c.requires.may.2.0 c.args.kind c.args.level c.requires.may.2.1.0

pub index-requires : goal.index-requires
index-requires c = in_rows c.args.self.now c.requires.may.0 c.requires.may.1 c.args.pass c.args.kind c.args.level (climbs_slot c.args.self.now c.requires.may.0 c.requires.may.1 c.args.pass c.requires.may.2.0 c.args.kind c.args.level c.requires.may.2.1.0) _ c.seat-place.ensures.place

pub stage-requires : goal.stage-requires
stage-requires c =
    member_there c.args.self.now c.requires.may.0 c.requires.may.1 c.args.pass c.args.kind c.args.level (climbs_slot c.args.self.now c.requires.may.0 c.requires.may.1 c.args.pass c.requires.may.2.0 c.args.kind c.args.level c.requires.may.2.1.0) _ _ c.seat-place.ensures.place c.index.ensures _ c.seat-place.ensures.member

pub index_mut-requires : goal.index_mut-requires
index_mut-requires c = in_rows c.args.self.now c.requires.may.0 c.requires.may.1 c.args.pass c.args.kind c.args.level (climbs_slot c.args.self.now c.requires.may.0 c.requires.may.1 c.args.pass c.requires.may.2.0 c.args.kind c.args.level c.requires.may.2.1.0) _ c.seat-place.ensures.place

pub leave-requires : goal.leave-requires
leave-requires c =
    may_there c.args.self.now c.requires.may.0 c.requires.may.1 c.args.pass c.args.kind c.args.level (climbs_slot c.args.self.now c.requires.may.0 c.requires.may.1 c.args.pass c.requires.may.2.0 c.args.kind c.args.level c.requires.may.2.1.0) _ _ c.seat-place.ensures.place c.index_mut.ensures.value _ c.seat-place.ensures.member (λ n. rows.Leave n) refl c.requires.may.2.1.1

pub overflow_sub-level : goal.overflow_sub-level
overflow_sub-level c = (climbs_slot c.args.self.now c.requires.may.0 c.requires.may.1 c.args.pass c.requires.may.2.0 c.args.kind c.args.level c.requires.may.2.1.0).2.0

pub seat-below-requires : goal.seat-below-requires
seat-below-requires c = lower_slot c.args.self.now c.requires.may.0 c.requires.may.1 c.args.pass c.args.kind c.args.level c.requires.above c.requires.may.2

pub index_mut-requires-2 : goal.index_mut-requires-2
index_mut-requires-2 c =
    in_place _ _ (steps_there c.args.self.now c.requires.may.0 c.requires.may.1 c.args.pass c.args.kind c.args.level (climbs_slot c.args.self.now c.requires.may.0 c.requires.may.1 c.args.pass c.requires.may.2.0 c.args.kind c.args.level c.requires.may.2.1.0) _ _ _ c.seat-place.ensures.place c.index_mut.ensures.value _ c.seat-place.ensures.member (λ n. rows.Leave n) c.leave.ensures) c.args.pass c.args.kind (c.args.level - 1) (lower_slot c.args.self.now c.requires.may.0 c.requires.may.1 c.args.pass c.args.kind c.args.level c.requires.above c.requires.may.2) _ c.seat-below.ensures.place

pub hand_base-requires : goal.hand_base-requires
hand_base-requires c =
    here_may _ _ (steps_there c.args.self.now c.requires.may.0 c.requires.may.1 c.args.pass c.args.kind c.args.level (climbs_slot c.args.self.now c.requires.may.0 c.requires.may.1 c.args.pass c.requires.may.2.0 c.args.kind c.args.level c.requires.may.2.1.0) _ _ _ c.seat-place.ensures.place c.index_mut.ensures.value _ c.seat-place.ensures.member (λ n. rows.Leave n) c.leave.ensures) c.args.pass c.args.kind (c.args.level - 1) (lower_slot c.args.self.now c.requires.may.0 c.requires.may.1 c.args.pass c.args.kind c.args.level c.requires.above c.requires.may.2) _ _ c.seat-below.ensures.place c.index_mut-2.ensures.value _ c.seat-below.ensures.member (λ n. rows.Hand_base n c.reply_of-base.result) refl
    (lower_may c.args.self.now c.requires.may.0 c.requires.may.1 c.args.pass c.args.kind c.args.level c.requires.above c.requires.may.2 c.reply_of-base.result)

pub overflow_sub-level-2 : goal.overflow_sub-level-2
overflow_sub-level-2 c = (climbs_slot c.args.self.now c.requires.may.0 c.requires.may.1 c.args.pass c.requires.may.2.0 c.args.kind c.args.level c.requires.may.2.1.0).2.0

pub index_mut-requires-3 : goal.index_mut-requires-3
index_mut-requires-3 c = in_standings c.args.self.now c.requires.may.0 c.requires.may.1 c.args.pass c.requires.may.2.0

pub returns-clause-takes : goal.returns-clause-takes
returns-clause-takes c = λ log stands may. (
    let slot = climbs_slot c.args.self.now log stands c.args.pass may.0 c.args.kind c.args.level may.1.0 in
    let left = steps_there c.args.self.now log stands c.args.pass c.args.kind c.args.level slot _ _ _ c.seat-place.ensures.place c.index_mut.ensures.value _ c.seat-place.ensures.member (λ n. rows.Leave n) c.leave.ensures in
    let handed = steps_in_place _ _ left c.args.pass c.args.kind (c.args.level - 1) (lower_slot c.args.self.now log stands c.args.pass c.args.kind c.args.level c.requires.above may) _ _ _ c.seat-below.ensures.place c.index_mut-2.ensures.value _ c.seat-below.ensures.member (λ n. rows.Hand_base n c.reply_of-base.result) c.hand_base.ensures in
    let read = stage_there c.args.self.now log stands c.args.pass c.args.kind c.args.level slot _ _ c.seat-place.ensures.place c.index.ensures _ c.seat-place.ensures.member in (
      goes_down c.args.self.now log stands c.args.pass c.args.kind c.args.level c.requires.above may _ _ (c.reply_of-base.ensures ∙ ap (reply_of c.args.self.now.start.cap c.args.kind) (c.stage.ensures ∙ read))
          (goes_there _ _ handed c.args.pass may.0 _ c.index_mut-3.ensures.value _),
      refl,
    )
    )
