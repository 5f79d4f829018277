use Rattle.std.proofs.Common.{◌∙◌}
use Rattle.fn_core.proofs.Looks.{member_in, stage_in}
use Rattle.fn_core.proofs.Taken.{in_rows}
use Rattle.fn_core.proofs.machine.Machine.stage_of.Goals as goal

pub index-requires : goal.index-requires
index-requires c = in_rows c.args.self.now c.requires.taken.0 c.requires.taken.1 c.args.pass c.args.kind c.args.level c.requires.slot _ c.seat-place.ensures.place

pub stage-requires : goal.stage-requires
stage-requires c = member_in c.args.self.now c.requires.taken.0 c.requires.taken.1 c.args.pass c.args.kind c.args.level c.requires.slot _ _ c.seat-place.ensures.place c.index.ensures _ c.seat-place.ensures.member

pub returns : goal.returns
returns c = λ log stands. c.stage.ensures ∙ stage_in c.args.self.now log stands c.args.pass c.args.kind c.args.level c.requires.slot _ _ c.seat-place.ensures.place c.index.ensures _ c.seat-place.ensures.member
