use Rattle.std.proofs.Common.{◌≡◌}
use Rattle.fn_core.specs.Calls.{IsIdle}
use Rattle.fn_table.specs.Seen.{IsOf}
use Rattle.table_tests.proofs.one_level.add_many.Given as goal

abbrev pub invariant-loop : goal.invariant-loop
invariant-loop l = record {
  together : IsOf l.table l.pass;
  number : l.pass.number ≡ l.fn.pass.number;
  idle : IsIdle l.pass.seen l.pass.number;
}
