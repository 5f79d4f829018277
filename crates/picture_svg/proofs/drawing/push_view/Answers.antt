use Rattle.std.proofs.Common.{codes, decimal}
use Rattle.picture_xml.specs.Xml.{attribute}
use Rattle.picture_svg.specs.Svg.{view, whole}
use Rattle.picture_svg.proofs.Growing.{three-more}
use Rattle.picture_svg.proofs.drawing.push_view.Goals as goal

pub returns : goal.returns
unfolding view attribute
returns c =
    three-more c.args.text.now.items c.extend_from_slice.new.self.items c.push_number.new.text.items c.extend_from_slice-2.new.self.items (codes " viewBox=\"0 0 1000 ") (decimal (whole c.args.workers)) (codes "\"")
    c.in_ok-extend_from_slice.ensures.items (rw c.whole.ensures at c.in_ok-push_number.ensures) c.in_ok-extend_from_slice-2.ensures.items
