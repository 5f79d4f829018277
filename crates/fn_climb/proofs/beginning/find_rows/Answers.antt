use Rattle.std.proofs.Common.{◌≤◌, refl, ap, arith}
use Rattle.fn_layout.specs.declared.shape.Shape.{Shape}
use Rattle.fn_climb.proofs.Every.{every_start, every_more, every_stop, every_through}
use Rattle.fn_climb.proofs.beginning.find_rows.Goals as goal

pub loop-level-init : goal.loop-level-init
loop-level-init c = every_start c.args.pass.now c.args.kind _ refl c.number-number.ensures.legal

pub loop-level-preserved : goal.loop-level-preserved
loop-level-preserved c =
    let less = rw (c.levels-level-end.ensures, c.shape_of.ensures) at c.loop-level-test.true in
    let low : 1 ≤ c.loop-level.level = omega (arith, c.loop-level.auto.level) in
    every_more c.args.pass.now c.args.kind c.loop-level.level c.loop-level.rows c.loop-level.pass c.loop-level.invariant low less c.find_row.new.pass c.in-Ok.row c.in-Ok.ensures

pub returns-in-Err : goal.returns-in-Err
returns-in-Err c =
    let less = rw (c.levels-level-end.ensures, c.shape_of.ensures) at c.loop-level-test.true in
    let low : 1 ≤ c.loop-level.level = omega (arith, c.loop-level.auto.level) in
    every_stop c.args.pass.now c.args.kind c.loop-level.level c.loop-level.rows c.loop-level.pass c.loop-level.invariant low less c.find_row.new.pass c.in-Err.blocked c.in-Err.ensures

pub returns : goal.returns
returns c =
    let levels = ap (λ (x : Shape). x.levels) c.shape_of.ensures in
    every_through c.args.pass.now c.args.kind c.loop-level.level c.loop-level.rows c.loop-level.pass c.loop-level.invariant (omega (arith, c.loop-level-test.false, c.levels-level-end.ensures, levels))
