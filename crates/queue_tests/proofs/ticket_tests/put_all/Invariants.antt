use Rattle.std.proofs.Common.{◌≡◌}
use Rattle.tq_queue.specs.Seen.{IsOf}
use Rattle.queue_tests.proofs.ticket_tests.put_all.Given as goal

abbrev pub invariant-loop-value : goal.invariant-loop-value
invariant-loop-value g l = IsOf l.queue l.pass × (l.pass.seat.number ≡ l.fn.pass.seat.number)
