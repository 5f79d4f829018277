use Rattle.fn_core.specs.Calls.{IsIdle}
use Rattle.fn_table.specs.Seen.{IsOf}
use Rattle.funnel_bench.proofs.rounds.add_ones.Given as goal

abbrev pub invariant-loop : goal.invariant-loop
invariant-loop g l = IsOf l.funnel l.pass × IsIdle l.pass.seen l.pass.number
