use Rattle.std.proofs.Common.{rules, append_assoc}
use Rattle.picture_xml.specs.Xml.{element}
use Rattle.picture_svg.specs.Svg.{svg}
use Rattle.picture_svg.proofs.Shared.{columns-fit}
use Rattle.picture_svg.proofs.drawing.drawn.Goals as goal

pub push_columns-requires-clause-within : goal.push_columns-requires-clause-within
push_columns-requires-clause-within c =
    rw (c.top_of-peak.ensures, c.deref.ensures.value) (columns-fit c.args.heading c.args.marks.now c.in_ok-columns.columns.items (search rules))

pub returns : goal.returns
unfolding svg element
returns c = search (rules, append_assoc)
