use Rattle.std.proofs.Common.{arith, sym, ap, ◌∙◌, ◌<◌, ◌++◌, List, [], map, length, Bor}
use Rattle.std.proofs.lemmas.List.{get_or-map, length-map}
use Rattle.picture_marks.specs.declared.marks.Mark.{Mark}
use Rattle.picture_svg.specs.Svg.{column, columns_text}
use Rattle.picture_svg.proofs.Growing.{numbered-more, numbered-end}
use Rattle.picture_svg.proofs.columns.push_columns.Goals as goal

abbrev now : Bor (List Mark) → List Mark
now marks = marks.now

pub loop-i-preserved : goal.loop-i-preserved
loop-i-preserved c =
    let columns = c.args.columns.now in
    let count = length-map columns now in
    let within : c.loop-i.i < length c.args.columns.now = omega arith in
    numbered-more (column c.args.workers c.args.peak (length columns)) (map now columns) c.loop-i.i [] c.loop-i.text.items c.push_column.new.text.items _ (omega arith)
    (c.in_ok-push_column.ensures ∙ ap (λ (marks : List Mark). c.loop-i.text.items ++ column c.args.workers c.args.peak (length columns) (c.loop-i.i, marks)) (sym (get_or-map now columns c.loop-i.i _ [] within))) c.loop-i.invariant

pub returns : goal.returns
unfolding columns_text
returns c =
    let columns = c.args.columns.now in
    let count = length-map columns now in
    numbered-end (column c.args.workers c.args.peak (length (map now columns))) (map now columns) c.loop-i.i c.loop-i.text.items _ (omega arith) (rw count c.loop-i.invariant)
