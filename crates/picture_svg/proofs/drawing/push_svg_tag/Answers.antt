use Rattle.std.proofs.Common.{rules, append_assoc}
use Rattle.std.proofs.lemmas.Result.{IfOk-equal}
use Rattle.picture_xml.specs.Xml.{attribute, open_tag}
use Rattle.picture_svg.specs.Svg.{svg_attributes}
use Rattle.picture_svg.proofs.drawing.push_svg_tag.Goals as goal

pub returns : goal.returns
unfolding svg_attributes open_tag attribute
returns c = search (rules, IfOk-equal, append_assoc)
