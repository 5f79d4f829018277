use Rattle.fn_table.specs.Seen.{IsOf}
use Rattle.call_tests.proofs.climb_tests.goes_on.Given as goal

abbrev pub invariant-loop : goal.invariant-loop
invariant-loop l = IsOf l.table l.pending.pass
