use Rattle.std.proofs.Common.{refl, ap}
use Rattle.fn_model.specs.declared.Kind.TheVariants.{Add}
use Rattle.fn_rows.specs.Machine as rows
use Rattle.fn_core.specs.declared.answer.Answer.TheVariants.{Word}
use Rattle.fn_core.specs.State.{opened}
use Rattle.fn_core.specs.Machine.{run}
use Rattle.fn_core.proofs.Reached.{climbs_slot}
use Rattle.fn_core.proofs.Taken.{in_rows, may_there}
use Rattle.fn_core.proofs.OnMain.{top_closed, applies_there, applied_there}
use Rattle.fn_core.proofs.machine.Machine.apply_batch.Goals as goal

pub index_mut-requires : goal.index_mut-requires
index_mut-requires c =
    let at = top_closed c.args.self.now.start (run c.args.self.now.start c.requires.0 (opened c.args.self.now.start)) c.args.pass c.args.weight c.levels-level.result c.levels-level.ensures c.requires.2.1 in
    let slot = climbs_slot c.args.self.now c.requires.0 c.requires.1 c.args.pass c.requires.2.0 Add c.levels-level.result at.0 in
    in_rows c.args.self.now c.requires.0 c.requires.1 c.args.pass Add c.levels-level.result slot _ c.seat-place.ensures.place

pub hand_base-requires : goal.hand_base-requires
hand_base-requires c =
    let at = top_closed c.args.self.now.start (run c.args.self.now.start c.requires.0 (opened c.args.self.now.start)) c.args.pass c.args.weight c.levels-level.result c.levels-level.ensures c.requires.2.1 in
    let slot = climbs_slot c.args.self.now c.requires.0 c.requires.1 c.args.pass c.requires.2.0 Add c.levels-level.result at.0 in
    may_there c.args.self.now c.requires.0 c.requires.1 c.args.pass Add c.levels-level.result slot _ _ c.seat-place.ensures.place c.index_mut.ensures.value _ c.seat-place.ensures.member (λ n. rows.Hand_base n c.args.self.now.main) refl at.1

pub returns-clause-takes : goal.returns-clause-takes
returns-clause-takes c = λ log stands may. (
    let at = top_closed c.args.self.now.start (run c.args.self.now.start log (opened c.args.self.now.start)) c.args.pass c.args.weight c.levels-level.result c.levels-level.ensures may.1 in
    let slot = climbs_slot c.args.self.now log stands c.args.pass may.0 Add c.levels-level.result at.0 in (
      applied_there c.args.self.now log c.args.pass c.args.weight c.levels-level.result _ at.0
          (applies_there c.args.self.now log stands c.args.pass Add c.levels-level.result slot _ _ _ c.seat-place.ensures.place c.index_mut.ensures.value _ c.seat-place.ensures.member c.hand_base.ensures c.args.weight _ c.after_capped-self.ensures),
      ap Word stands.fields.main_is,
    )
    )
