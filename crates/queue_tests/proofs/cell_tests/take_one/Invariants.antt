use Rattle.tq_cells.specs.Seen.{IsSame}
use Rattle.queue_tests.proofs.cell_tests.take_one.Given as goal

abbrev pub invariant-loop : goal.invariant-loop
invariant-loop g l = IsSame l.fn.seat l.seat
