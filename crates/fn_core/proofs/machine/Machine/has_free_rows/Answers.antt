use Rattle.std.proofs.Common.{◌+◌, arith}
use Rattle.std.proofs.lemmas.Bool.{false≢true}
use Rattle.fn_core.specs.State.{opened}
use Rattle.fn_core.specs.Machine.{run}
use Rattle.fn_core.proofs.FirstFree.{free_rows_are_found}
use Rattle.fn_core.proofs.Looks.{free_more, all_free}
use Rattle.fn_core.proofs.machine.Machine.has_free_rows.Goals as goal

pub returns-then-first_free-rows : goal.returns-then-first_free-rows
returns-then-first_free-rows c = λ log stands. (
    let level = c.loop-above.above + 1 in
    let found = (free_rows_are_found c.args.self.now.start (run c.args.self.now.start log (opened c.args.self.now.start)) c.args.kind level c.args.pass).0 in
    ((λ yes. absurd (false≢true yes)), (λ all. absurd (omega (arith, found (all level (omega arith) (omega (arith, c.loop-above-test.true, c.levels-above-end.ensures))), c.first_free.ensures log stands, c.if-first_free-rows.true, c.rows.ensures))))
    )

pub loop-above-preserved : goal.loop-above-preserved
loop-above-preserved c = λ log stands. free_more c.args.self.now.start (run c.args.self.now.start log (opened c.args.self.now.start)) c.args.kind c.args.pass c.loop-above.above _ _ (c.loop-above.invariant log stands) (c.first_free.ensures log stands) c.rows.ensures c.if-first_free-rows.false

pub returns : goal.returns
returns c = λ log stands. all_free c.args.self.now.start (run c.args.self.now.start log (opened c.args.self.now.start)) c.args.kind c.args.pass c.levels-above-end.result c.levels-above-end.ensures (λ k less. c.loop-above.invariant log stands k (omega (arith, less, c.loop-above-test.false)))
