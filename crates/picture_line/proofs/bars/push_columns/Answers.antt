use Rattle.std.proofs.Common.{◌++◌, ap, ◌∙◌, arith}
use Rattle.picture_line.specs.declared.bars.TheConstants.{MOST_BARS}
use Rattle.picture_marks.specs.Marks.{columns_of, top}
use Rattle.picture_marks.proofs.Heights.{scale-fits}
use Rattle.picture_line.proofs.Drawn.{bars-drawn, left-within}
use Rattle.picture_line.proofs.bars.push_columns.Goals as goal

pub scaled-requires-clause-within : goal.scaled-requires-clause-within
scaled-requires-clause-within c =
    left-within MOST_BARS c.args.heading c.args.marks.now c.deref-column-items.result.now c.in_ok-columns.columns.items c.loop-column.column-index _ c.left_by.result c.top_of-top.result
    c.deref-column-items.ensures.value c.in_ok-columns.ensures c.loop-column-test.true c.left_by.ensures c.top_of-top.ensures

pub push_bar-requires : goal.push_bar-requires
push_bar-requires c =
    let within =
    left-within MOST_BARS c.args.heading c.args.marks.now c.deref-column-items.result.now c.in_ok-columns.columns.items c.loop-column.column-index _ c.left_by.result c.top_of-top.result
    c.deref-column-items.ensures.value c.in_ok-columns.ensures c.loop-column-test.true c.left_by.ensures c.top_of-top.ensures in
    let fits = scale-fits 7 c.top_of-top.result c.left_by.result within in
    omega (arith, c.scaled.ensures, fits)

pub returns : goal.returns
returns c =
    let marks = c.args.marks.now in
    let drawn = bars-drawn c.top_of-top.result (top c.args.heading marks) c.deref-column-items.result.now c.in_ok-columns.columns.items (columns_of MOST_BARS marks) c.loop-column.column-index
    c.loop-column-test.false c.deref-column-items.ensures.value c.in_ok-columns.ensures c.top_of-top.ensures in
    c.loop-column.invariant ∙ ap (λ drawn. c.args.text.now.items ++ drawn) drawn
