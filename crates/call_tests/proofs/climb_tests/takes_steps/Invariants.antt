use Rattle.std.specs.Prelude.{IfSome}
use Rattle.fn_table.specs.Seen.{IsOf}
use Rattle.call_tests.proofs.climb_tests.takes_steps.Given as goal

abbrev pub invariant-loop : goal.invariant-loop
invariant-loop l = IfSome l.call.0 (λ p. IsOf l.table p.pass)
