use Rattle.tq_cells.specs.Seen.{IsSame}
use Rattle.queue_tests.proofs.cell_tests.take_all.Given as goal

abbrev pub invariant-loop-ticket : goal.invariant-loop-ticket
invariant-loop-ticket g l = IsSame l.fn.seat l.seat
