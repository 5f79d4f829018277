use Rattle.std.proofs.Common.{refl, sym, ap, subst, ◌∙◌, arith}
use Rattle.fn_rows.specs.Machine as rows
use Rattle.fn_rows.specs.Aggregator.{word_of, asked}
use Rattle.fn_core.specs.declared.answer.Answer.TheVariants.{Word}
use Rattle.fn_core.specs.Words.{told_field, NamesMine}
use Rattle.fn_core.proofs.Reached.{climbs_slot}
use Rattle.fn_core.proofs.Taken.{in_rows, may_there, there, steps_there}
use Rattle.fn_core.proofs.Seats.{member_there, stage_there, position_there, peek_may, hand_small, hand_asked, peek_mine, peek_found, peeked_there}
use Rattle.fn_core.proofs.machine.Machine.peek.Goals as goal

pub seat-place-requires : goal.seat-place-requires
seat-place-requires c = climbs_slot c.args.self.now c.requires.0 c.requires.1 c.args.pass c.requires.2.0 c.in-Climbing.kind c.in-Climbing.level (position_there c.args.self.now c.requires.0 c.requires.1 c.args.pass c.requires.2.0 _ c.index.ensures ∙ c.in-Climbing.is)

pub index-requires-in-Climbing : goal.index-requires-in-Climbing
index-requires-in-Climbing c =
    in_rows c.args.self.now c.requires.0 c.requires.1 c.args.pass c.in-Climbing.kind c.in-Climbing.level (climbs_slot c.args.self.now c.requires.0 c.requires.1 c.args.pass c.requires.2.0 c.in-Climbing.kind c.in-Climbing.level (position_there c.args.self.now c.requires.0 c.requires.1 c.args.pass c.requires.2.0 _ c.index.ensures ∙ c.in-Climbing.is)) _ c.seat-place.ensures.place

pub stage-requires : goal.stage-requires
stage-requires c =
    member_there c.args.self.now c.requires.0 c.requires.1 c.args.pass c.in-Climbing.kind c.in-Climbing.level (climbs_slot c.args.self.now c.requires.0 c.requires.1 c.args.pass c.requires.2.0 c.in-Climbing.kind c.in-Climbing.level (position_there c.args.self.now c.requires.0 c.requires.1 c.args.pass c.requires.2.0 _ c.index.ensures ∙ c.in-Climbing.is)) _ _ c.seat-place.ensures.place c.index-in-Climbing.ensures _ c.seat-place.ensures.member

pub overflow_cast-number : goal.overflow_cast-number
overflow_cast-number c =
    let position = (position_there c.args.self.now c.requires.0 c.requires.1 c.args.pass c.requires.2.0 _ c.index.ensures ∙ c.in-Climbing.is) in
    let slot = climbs_slot c.args.self.now c.requires.0 c.requires.1 c.args.pass c.requires.2.0 c.in-Climbing.kind c.in-Climbing.level position in
    let read = stage_there c.args.self.now c.requires.0 c.requires.1 c.args.pass c.in-Climbing.kind c.in-Climbing.level slot _ _ c.seat-place.ensures.place c.index-in-Climbing.ensures _ c.seat-place.ensures.member in
    omega (arith, hand_small c.args.self.now c.requires.0 c.requires.1 c.args.pass c.args.row c.args.field c.requires.2 c.in-Climbing.kind c.in-Climbing.level position _ _ (c.stage.ensures ∙ read) c.row_in_hand-number.ensures)

pub index_mut-requires : goal.index_mut-requires
index_mut-requires c =
    in_rows c.args.self.now c.requires.0 c.requires.1 c.args.pass c.in-Climbing.kind c.in-Climbing.level (climbs_slot c.args.self.now c.requires.0 c.requires.1 c.args.pass c.requires.2.0 c.in-Climbing.kind c.in-Climbing.level (position_there c.args.self.now c.requires.0 c.requires.1 c.args.pass c.requires.2.0 _ c.index.ensures ∙ c.in-Climbing.is)) _ c.seat-place.ensures.place

pub peek-word-requires-clause-may : goal.peek-word-requires-clause-may
peek-word-requires-clause-may c =
    let position = (position_there c.args.self.now c.requires.0 c.requires.1 c.args.pass c.requires.2.0 _ c.index.ensures ∙ c.in-Climbing.is) in
    may_there c.args.self.now c.requires.0 c.requires.1 c.args.pass c.in-Climbing.kind c.in-Climbing.level (climbs_slot c.args.self.now c.requires.0 c.requires.1 c.args.pass c.requires.2.0 c.in-Climbing.kind c.in-Climbing.level position) _ _ c.seat-place.ensures.place c.index_mut.ensures.value _ c.seat-place.ensures.member (λ n. rows.Peek n) refl
    (peek_may c.args.self.now c.requires.0 c.requires.1 c.args.pass c.args.row c.args.field c.requires.2 c.in-Climbing.kind c.in-Climbing.level position)

pub peek-word-requires-clause-word : goal.peek-word-requires-clause-word
peek-word-requires-clause-word c =
    let position = (position_there c.args.self.now c.requires.0 c.requires.1 c.args.pass c.requires.2.0 _ c.index.ensures ∙ c.in-Climbing.is) in
    let slot = climbs_slot c.args.self.now c.requires.0 c.requires.1 c.args.pass c.requires.2.0 c.in-Climbing.kind c.in-Climbing.level position in
    let here = stage_there c.args.self.now c.requires.0 c.requires.1 c.args.pass c.in-Climbing.kind c.in-Climbing.level slot _ _ c.seat-place.ensures.place c.index_mut.ensures.value _ c.seat-place.ensures.member in
    let read = stage_there c.args.self.now c.requires.0 c.requires.1 c.args.pass c.in-Climbing.kind c.in-Climbing.level slot _ _ c.seat-place.ensures.place c.index-in-Climbing.ensures _ c.seat-place.ensures.member in
    ap asked (here ∙ sym read ∙ sym c.stage.ensures) ∙ hand_asked c.args.self.now c.requires.0 c.requires.1 c.args.pass c.args.row c.args.field c.requires.2 c.in-Climbing.kind c.in-Climbing.level position _ _ (c.stage.ensures ∙ read) c.row_in_hand-number.ensures

pub told-requires-clause-slot : goal.told-requires-clause-slot
told-requires-clause-slot c = climbs_slot c.args.self.now c.requires.0 c.requires.1 c.args.pass c.requires.2.0 c.in-Climbing.kind c.in-Climbing.level (position_there c.args.self.now c.requires.0 c.requires.1 c.args.pass c.requires.2.0 _ c.index.ensures ∙ c.in-Climbing.is)

pub told-requires-clause-mine : goal.told-requires-clause-mine
told-requires-clause-mine c = λ is. (
    let position = (position_there c.args.self.now c.requires.0 c.requires.1 c.args.pass c.requires.2.0 _ c.index.ensures ∙ c.in-Climbing.is) in
    let slot = climbs_slot c.args.self.now c.requires.0 c.requires.1 c.args.pass c.requires.2.0 c.in-Climbing.kind c.in-Climbing.level position in
    let place = there c.args.self.now c.requires.0 c.requires.1 c.args.pass c.in-Climbing.kind c.in-Climbing.level slot _ _ c.seat-place.ensures.place c.index_mut.ensures.value in
    let read = stage_there c.args.self.now c.requires.0 c.requires.1 c.args.pass c.in-Climbing.kind c.in-Climbing.level slot _ _ c.seat-place.ensures.place c.index-in-Climbing.ensures _ c.seat-place.ensures.member in
    let asks = hand_asked c.args.self.now c.requires.0 c.requires.1 c.args.pass c.args.row c.args.field c.requires.2 c.in-Climbing.kind c.in-Climbing.level position _ _ (c.stage.ensures ∙ read) c.row_in_hand-number.ensures in
    subst (NamesMine c.args.self.now.start.shape c.in-Climbing.level _) (sym (c.peek-word.ensures.word ∙ ap (λ (t : rows.State). word_of t c.row_in_hand-number.result c.args.field) place.state_is))
    (peek_mine c.args.self.now c.requires.0 c.requires.1 c.args.pass c.args.row c.args.field c.requires.2 c.in-Climbing.kind c.in-Climbing.level position c.row_in_hand-number.result (ap asked (sym (c.stage.ensures ∙ read)) ∙ asks) is)
    )

pub returns-in-Climbing-clause-takes : goal.returns-in-Climbing-clause-takes
returns-in-Climbing-clause-takes c = λ log stands may. (
    let position = position_there c.args.self.now log stands c.args.pass may.0 _ c.index.ensures ∙ c.in-Climbing.is in
    let slot = climbs_slot c.args.self.now log stands c.args.pass may.0 c.in-Climbing.kind c.in-Climbing.level position in
    let place = there c.args.self.now log stands c.args.pass c.in-Climbing.kind c.in-Climbing.level slot _ _ c.seat-place.ensures.place c.index_mut.ensures.value in
    let read = stage_there c.args.self.now log stands c.args.pass c.in-Climbing.kind c.in-Climbing.level slot _ _ c.seat-place.ensures.place c.index-in-Climbing.ensures _ c.seat-place.ensures.member in
    let asks = hand_asked c.args.self.now log stands c.args.pass c.args.row c.args.field may c.in-Climbing.kind c.in-Climbing.level position _ _ (c.stage.ensures ∙ read) c.row_in_hand-number.ensures in (
      peeked_there c.args.self.now log stands c.args.pass c.args.row c.args.field may c.in-Climbing.kind c.in-Climbing.level position _
          (steps_there c.args.self.now log stands c.args.pass c.in-Climbing.kind c.in-Climbing.level slot _ _ _ c.seat-place.ensures.place c.index_mut.ensures.value _ c.seat-place.ensures.member (λ n. rows.Peek n) c.peek-word.ensures.step),
      ap Word (c.told.ensures
          ∙ ap (told_field c.args.self.now.start.shape c.in-Climbing.kind c.in-Climbing.level _ c.args.field) (c.peek-word.ensures.word ∙ ap (λ (t : rows.State). word_of t c.row_in_hand-number.result c.args.field) place.state_is)
          ∙ peek_found c.args.self.now log stands c.args.pass c.args.row c.args.field may c.in-Climbing.kind c.in-Climbing.level position c.row_in_hand-number.result (ap asked (sym (c.stage.ensures ∙ read)) ∙ asks) slot),
    )
    )

pub returns-in_default : goal.returns-in_default
returns-in_default c =
    absurd (c.in_default.not-Climbing _ _ (sym (position_there c.args.self.now c.requires.0 c.requires.1 c.args.pass c.requires.2.0 _ c.index.ensures) ∙ c.requires.2.1.2.0))
