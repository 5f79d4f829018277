use Rattle.std.specs.Prelude.{IfSome}
use Rattle.fn_table.specs.Seen.{IsOf}
use Rattle.call_tests.proofs.climb_tests.polled_in_turn.Given as goal

abbrev pub invariant-loop : goal.invariant-loop
invariant-loop l = IfSome l.first.0 (λ p. IsOf l.table p.pass) × IfSome l.second.0 (λ p. IsOf l.table p.pass)
