use Rattle.std.proofs.Common.{sym, ◌∙◌}
use Rattle.fn_core.specs.declared.Move.TheVariants.{Glance}
use Rattle.fn_direct.proofs.Told.{none_at_once, knows_note}
use Rattle.fn_direct.proofs.Joined.{glance_makes_none}
use Rattle.fn_direct.proofs.meet.Goals as goal

pub returns-clause-none : goal.returns-clause-none
returns-clause-none c = glance_makes_none c.args.pass.now c.requires.idle c.meet.ensures.stepped.0 c.meet.new.pass c.meet.ensures.stepped.1

pub returns-clause-made_none : goal.returns-clause-made_none
returns-clause-made_none c =
    let stepped = c.meet.ensures.stepped in
    none_at_once c.args.pass.now Glance stepped.0 c.meet.new.pass stepped.1 (glance_makes_none c.args.pass.now c.requires.idle stepped.0 c.meet.new.pass stepped.1)

pub returns-clause-knows : goal.returns-clause-knows
returns-clause-knows c = knows_note c.args.pass.now c.args.note c.meet.new.pass (c.requires.note.1 ∙ sym c.requires.together.1) c.meet.ensures
