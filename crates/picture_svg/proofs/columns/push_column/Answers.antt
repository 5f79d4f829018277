use Rattle.std.proofs.Common.{rules, append_assoc}
use Rattle.std.proofs.lemmas.Result.{IfOk-equal}
use Rattle.picture_xml.specs.Xml.{element}
use Rattle.picture_svg.specs.Svg.{column}
use Rattle.picture_svg.proofs.columns.push_column.Goals as goal

pub returns : goal.returns
unfolding column element
returns c = search (rules, IfOk-equal, append_assoc)
