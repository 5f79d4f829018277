use Rattle.fn_core.specs.declared.Move.TheVariants.{Glance}
use Rattle.fn_direct.proofs.Told.{none_at_once}
use Rattle.fn_direct.proofs.Joined.{glance_makes_none}
use Rattle.fn_direct.proofs.note.Goals as goal

pub returns-clause-none : goal.returns-clause-none
returns-clause-none c = glance_makes_none c.args.pass.now c.requires.idle c.note.ensures.pass.0 c.note.new.pass c.note.ensures.pass.1

pub returns-clause-made_none : goal.returns-clause-made_none
returns-clause-made_none c =
    let stepped = c.note.ensures.pass in
    none_at_once c.args.pass.now Glance stepped.0 c.note.new.pass stepped.1 (glance_makes_none c.args.pass.now c.requires.idle stepped.0 c.note.new.pass stepped.1)
