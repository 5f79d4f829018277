use Rattle.fn_rows.specs.Found.{Forgets}
use Rattle.fn_rows.proofs.state.forget.Given as goal

abbrev pub invariant-loop-k : goal.invariant-loop-k
invariant-loop-k l = Forgets l.initial.found l.found l.start l.k
