use Rattle.std.proofs.Common.{refl, sym, ap, subst, ◌∙◌, ◌+◌, ◌<◌, ◌^◌, ◌≢◌, arith}
use Rattle.fn_rows.specs.Machine as rows
use Rattle.fn_core.specs.declared.answer.Answer.TheVariants.{Word}
use Rattle.fn_core.proofs.Reached.{climbs_slot}
use Rattle.fn_core.proofs.Taken.{in_rows, in_standings, may_there, there, steps_there}
use Rattle.fn_core.proofs.Seats.{arrive_room, arrive_spends, arrives_first, arrives_above}
use Rattle.fn_core.proofs.machine.Machine.arrive.Goals as goal

pub seat-place-requires : goal.seat-place-requires
seat-place-requires c = climbs_slot c.args.self.now c.requires.0 c.requires.1 c.args.pass c.requires.2.0 c.args.kind c.args.level c.requires.2.1.0.0

pub index_mut-requires : goal.index_mut-requires
index_mut-requires c =
    in_rows c.args.self.now c.requires.0 c.requires.1 c.args.pass c.args.kind c.args.level (climbs_slot c.args.self.now c.requires.0 c.requires.1 c.args.pass c.requires.2.0 c.args.kind c.args.level c.requires.2.1.0.0) _ c.seat-place.ensures.place

pub arrive-offset-requires-clause-may : goal.arrive-offset-requires-clause-may
arrive-offset-requires-clause-may c =
    may_there c.args.self.now c.requires.0 c.requires.1 c.args.pass c.args.kind c.args.level (climbs_slot c.args.self.now c.requires.0 c.requires.1 c.args.pass c.requires.2.0 c.args.kind c.args.level c.requires.2.1.0.0) _ _ c.seat-place.ensures.place c.index_mut.ensures.value _ c.seat-place.ensures.member (λ n. rows.Arrive n c.args.weight) refl c.requires.2.1.0.1

pub arrive-offset-requires-clause-room : goal.arrive-offset-requires-clause-room
arrive-offset-requires-clause-room c =
    let place = there c.args.self.now c.requires.0 c.requires.1 c.args.pass c.args.kind c.args.level (climbs_slot c.args.self.now c.requires.0 c.requires.1 c.args.pass c.requires.2.0 c.args.kind c.args.level c.requires.2.1.0.0) _ _ c.seat-place.ensures.place c.index_mut.ensures.value in
    subst (λ (t : rows.State). t.total + c.args.weight < 2 ^ 63) (sym place.state_is) (arrive_room c.args.self.now c.requires.0 c.requires.1 c.args.pass c.args.kind c.args.level c.args.weight c.requires.2)

pub index_mut-requires-in-1 : goal.index_mut-requires-in-1
index_mut-requires-in-1 c = in_standings c.args.self.now c.requires.0 c.requires.1 c.args.pass c.requires.2.0

pub overflow_sub-index_mut : goal.overflow_sub-index_mut
overflow_sub-index_mut c = arrive_spends c.args.self.now c.requires.0 c.requires.1 c.args.pass c.args.kind c.args.level c.args.weight c.in-1.is c.requires.2 _ c.index_mut-in-1.ensures.value

pub returns-in-1-clause-takes : goal.returns-in-1-clause-takes
returns-in-1-clause-takes c = λ log stands may. (
    let slot = climbs_slot c.args.self.now log stands c.args.pass may.0 c.args.kind c.args.level may.1.0.0 in (
      arrives_first c.args.self.now log stands c.args.pass c.args.kind c.args.level c.args.weight c.in-1.is may.0 _ refl
          (steps_there c.args.self.now log stands c.args.pass c.args.kind c.args.level slot _ _ _ c.seat-place.ensures.place c.index_mut.ensures.value _ c.seat-place.ensures.member (λ n. rows.Arrive n c.args.weight) c.arrive-offset.ensures.step)
          _ c.index_mut-in-1.ensures.value refl,
      ap Word (c.arrive-offset.ensures.word ∙ ap (λ (t : rows.State). t.total) (there c.args.self.now log stands c.args.pass c.args.kind c.args.level slot _ _ c.seat-place.ensures.place c.index_mut.ensures.value).state_is),
    )
    )

pub returns-in_default-clause-takes : goal.returns-in_default-clause-takes
returns-in_default-clause-takes c = λ log stands may. (
    let above : c.args.level ≢ 1 = omega arith in
    let slot = climbs_slot c.args.self.now log stands c.args.pass may.0 c.args.kind c.args.level may.1.0.0 in (
      arrives_above c.args.self.now log stands c.args.pass c.args.kind c.args.level c.args.weight above may _
          (steps_there c.args.self.now log stands c.args.pass c.args.kind c.args.level slot _ _ _ c.seat-place.ensures.place c.index_mut.ensures.value _ c.seat-place.ensures.member (λ n. rows.Arrive n c.args.weight) c.arrive-offset.ensures.step),
      ap Word (c.arrive-offset.ensures.word ∙ ap (λ (t : rows.State). t.total) (there c.args.self.now log stands c.args.pass c.args.kind c.args.level slot _ _ c.seat-place.ensures.place c.index_mut.ensures.value).state_is),
    )
    )
