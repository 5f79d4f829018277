use Rattle.std.proofs.Common.{ℕ, refl, sym, ap, subst, ◌∙◌}
use Rattle.fn_rows.specs.Machine as rows
use Rattle.fn_core.specs.declared.answer.Answer.TheVariants.{Word}
use Rattle.fn_core.specs.Words.{link, NamesMine}
use Rattle.fn_core.proofs.Reached.{climbs_slot}
use Rattle.fn_core.proofs.Tells.{last_mine}
use Rattle.fn_core.proofs.Taken.{in_rows, may_there, there, steps_there}
use Rattle.fn_core.proofs.machine.Machine.head.Goals as goal

pub seat-place-requires : goal.seat-place-requires
seat-place-requires c = climbs_slot c.args.self.now c.requires.0 c.requires.1 c.args.pass c.requires.2.0 c.args.kind c.args.level c.requires.2.1.0

pub index_mut-requires : goal.index_mut-requires
index_mut-requires c =
    in_rows c.args.self.now c.requires.0 c.requires.1 c.args.pass c.args.kind c.args.level (climbs_slot c.args.self.now c.requires.0 c.requires.1 c.args.pass c.requires.2.0 c.args.kind c.args.level c.requires.2.1.0) _ c.seat-place.ensures.place

pub head-word-requires : goal.head-word-requires
head-word-requires c =
    may_there c.args.self.now c.requires.0 c.requires.1 c.args.pass c.args.kind c.args.level (climbs_slot c.args.self.now c.requires.0 c.requires.1 c.args.pass c.requires.2.0 c.args.kind c.args.level c.requires.2.1.0) _ _ c.seat-place.ensures.place c.index_mut.ensures.value _ c.seat-place.ensures.member (λ n. rows.Head n) refl c.requires.2.1.1

pub aggregator_of-index-requires-clause-level_in_range : goal.aggregator_of-index-requires-clause-level_in_range
aggregator_of-index-requires-clause-level_in_range c = (climbs_slot c.args.self.now c.requires.0 c.requires.1 c.args.pass c.requires.2.0 c.args.kind c.args.level c.requires.2.1.0).2

pub link-requires-clause-place : goal.link-requires-clause-place
link-requires-clause-place c =
    let slot = climbs_slot c.args.self.now c.requires.0 c.requires.1 c.args.pass c.requires.2.0 c.args.kind c.args.level c.requires.2.1.0 in
    (slot.1, slot.2, c.aggregator_of-index.ensures.in_range)

pub link-requires-clause-mine : goal.link-requires-clause-mine
link-requires-clause-mine c =
    let place = there c.args.self.now c.requires.0 c.requires.1 c.args.pass c.args.kind c.args.level (climbs_slot c.args.self.now c.requires.0 c.requires.1 c.args.pass c.requires.2.0 c.args.kind c.args.level c.requires.2.1.0) _ _ c.seat-place.ensures.place c.index_mut.ensures.value in
    subst (λ (i : ℕ). NamesMine c.args.self.now.start.shape c.args.level i c.head-word.result) (sym c.aggregator_of-index.ensures.exact)
    (subst (NamesMine c.args.self.now.start.shape c.args.level _) (sym (c.head-word.ensures.word ∙ ap (λ (t : rows.State). t.last) place.state_is))
    (last_mine c.args.self.now.start c.requires.0 c.requires.1.start_ok c.requires.1.legal c.args.pass c.args.kind c.args.level))

pub returns-clause-takes : goal.returns-clause-takes
returns-clause-takes c = λ log stands may. (
    let slot = climbs_slot c.args.self.now log stands c.args.pass may.0 c.args.kind c.args.level may.1.0 in
    let place = there c.args.self.now log stands c.args.pass c.args.kind c.args.level slot _ _ c.seat-place.ensures.place c.index_mut.ensures.value in (
      steps_there c.args.self.now log stands c.args.pass c.args.kind c.args.level slot _ _ _ c.seat-place.ensures.place c.index_mut.ensures.value _ c.seat-place.ensures.member (λ n. rows.Head n) c.head-word.ensures.step,
      ap Word (c.link.ensures ∙ ap (λ (i : ℕ). link c.args.self.now.start.shape c.args.kind c.args.level i c.head-word.result) c.aggregator_of-index.ensures.exact
          ∙ ap (link c.args.self.now.start.shape c.args.kind c.args.level _) (c.head-word.ensures.word ∙ ap (λ (t : rows.State). t.last) place.state_is)),
    )
    )
