use Rattle.std.proofs.Common.{ap, arith}
use Rattle.fn_layout.specs.declared.shape.Shape.{Shape}
use Rattle.fn_climb.proofs.Levels.{level_start, level_more, level_stop, level_through}
use Rattle.fn_climb.proofs.beginning.find_row.Goals as goal

pub loop-row-init : goal.loop-row-init
loop-row-init c = level_start c.args.pass.now c.args.kind c.args.level _ c.number-number.ensures.legal

pub loop-row-preserved : goal.loop-row-preserved
loop-row-preserved c =
    let less = rw (c.rows-row-end.ensures, c.shape_of.ensures) at c.loop-row-test.true in
    level_more c.args.pass.now c.args.kind c.args.level c.loop-row.row c.loop-row.last c.loop-row.pass c.loop-row.invariant less c.try_row.new.pass c.in-Some.blocked c.in-Some.ensures

pub returns-in-None : goal.returns-in-None
returns-in-None c =
    let less = rw (c.rows-row-end.ensures, c.shape_of.ensures) at c.loop-row-test.true in
    level_stop c.args.pass.now c.args.kind c.args.level c.loop-row.row c.loop-row.last c.loop-row.pass c.loop-row.invariant less c.try_row.new.pass c.in-None.ensures

pub returns : goal.returns
returns c =
    let rows = ap (λ (x : Shape). x.rows) c.shape_of.ensures in
    level_through c.args.pass.now c.args.kind c.args.level c.loop-row.row c.loop-row.last c.loop-row.pass c.loop-row.invariant (omega (arith, c.loop-row-test.false, c.rows-row-end.ensures, rows)) (omega (arith, c.loop-row.auto.row-end, c.rows-row-end.ensures, rows))
