use Rattle.std.proofs.Common.{◌≡◌, refl, length, []}
use Rattle.std.proofs.lemmas.List.{nil_from_length}
use Rattle.text_lines.specs.Text.{without_return}
use Rattle.text_lines.proofs.Cutting.{without_return-kept, without_return-cut}
use Rattle.text_lines.proofs.pieces.without_return.Goals as goal

pub returns-in-Some : goal.returns-in-Some
returns-in-Some c = without_return-cut c.args.line.now c.in-Some.front.now c.in-Some.last.now c.in-Some.ensures.cases.0 c.if-last-eq13.true

pub returns-in_default : goal.returns-in_default
returns-in_default c = without_return-kept c.args.line.now c.in-Some.front.now c.in-Some.last.now c.in-Some.ensures.cases.0 c.if-last-eq13.false

pub returns-in_default-2 : goal.returns-in_default-2
unfolding without_return
returns-in_default-2 c =
    let none : length c.args.line.now ≡ 0 = rw c.in_default.is at c.split_last.ensures.cases in
    let empty : c.args.line.now ≡ [] = nil_from_length c.args.line.now none in rw empty refl
