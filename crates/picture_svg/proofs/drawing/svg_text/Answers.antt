use Rattle.picture_svg.proofs.Well.{svg_is_well}
use Rattle.picture_svg.proofs.drawing.svg_text.Goals as goal

pub returns-clause-well : goal.returns-clause-well
returns-clause-well c named = rw c.in_ok-drawn.ensures (svg_is_well c.args.name.now c.args.heading c.args.workers c.args.marks.now named)
