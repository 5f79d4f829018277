use Rattle.std.proofs.Common.{refl, ap, ◌∙◌}
use Rattle.fn_rows.specs.Machine as rows
use Rattle.fn_core.specs.declared.answer.Answer.TheVariants.{Word}
use Rattle.fn_core.proofs.Taken.{see_slot, see_out, in_rows, in_standings, may_there, there, steps_there, goes_there}
use Rattle.fn_core.proofs.machine.Machine.see.Goals as goal

pub seat-place-requires : goal.seat-place-requires
seat-place-requires c = see_slot c.args.self.now c.requires.0 c.requires.1 c.args.pass c.requires.2.0 c.args.kind c.args.level c.requires.2.1

pub index_mut-requires : goal.index_mut-requires
index_mut-requires c =
    in_rows c.args.self.now c.requires.0 c.requires.1 c.args.pass c.args.kind c.args.level (see_slot c.args.self.now c.requires.0 c.requires.1 c.args.pass c.requires.2.0 c.args.kind c.args.level c.requires.2.1) _ c.seat-place.ensures.place

pub see-done-requires : goal.see-done-requires
see-done-requires c =
    may_there c.args.self.now c.requires.0 c.requires.1 c.args.pass c.args.kind c.args.level (see_slot c.args.self.now c.requires.0 c.requires.1 c.args.pass c.requires.2.0 c.args.kind c.args.level c.requires.2.1) _ _ c.seat-place.ensures.place c.index_mut.ensures.value _ c.seat-place.ensures.member (λ n. rows.See n) refl
    (see_out c.args.self.now c.requires.0 c.requires.1 c.args.pass c.requires.2.0 c.args.kind c.args.level c.requires.2.1)

pub index_mut-requires-2 : goal.index_mut-requires-2
index_mut-requires-2 c = in_standings c.args.self.now c.requires.0 c.requires.1 c.args.pass c.requires.2.0

pub returns-clause-takes : goal.returns-clause-takes
returns-clause-takes c = λ log stands may. (
    let slot = see_slot c.args.self.now log stands c.args.pass may.0 c.args.kind c.args.level may.1 in
    let stepped = steps_there c.args.self.now log stands c.args.pass c.args.kind c.args.level slot _ _ _ c.seat-place.ensures.place c.index_mut.ensures.value _ c.seat-place.ensures.member (λ n. rows.See n) c.see-done.ensures.step in (
      goes_there _ _ stepped c.args.pass may.0 _ c.index_mut-2.ensures.value _,
      ap Word (c.see-done.ensures.word ∙ ap (λ (t : rows.State). t.done) (there c.args.self.now log stands c.args.pass c.args.kind c.args.level slot _ _ c.seat-place.ensures.place c.index_mut.ensures.value).state_is),
    )
    )
