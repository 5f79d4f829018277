use Rattle.std.proofs.Common.{arith}
use Rattle.fn_rows.proofs.Found.{forgets_none, forgets_more}
use Rattle.fn_rows.proofs.state.forget.Goals as goal

pub loop-k-init : goal.loop-k-init
loop-k-init c = forgets_none c.args.found.now c.args.start

pub loop-k-preserved : goal.loop-k-preserved
loop-k-preserved c = forgets_more _ c.loop-k.found c.args.start c.loop-k.k (omega arith) c.loop-k.invariant
