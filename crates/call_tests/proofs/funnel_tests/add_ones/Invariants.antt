use Rattle.std.proofs.Common.{◌≡◌}
use Rattle.fn_core.specs.Calls.{IsIdle}
use Rattle.fn_table.specs.Seen.{IsOf}
use Rattle.call_tests.proofs.funnel_tests.add_ones.Given as goal

abbrev pub invariant-loop : goal.invariant-loop
invariant-loop g l = IsOf l.funnel l.pass × (l.pass.number ≡ l.fn.pass.number) × IsIdle l.pass.seen l.pass.number
