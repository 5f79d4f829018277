use Rattle.std.proofs.Common.{◌≡◌}
use Rattle.tq_queue.specs.Seen.{IsOf}
use Rattle.queue_tests.proofs.ticket_tests.put_one.Given as goal

abbrev pub invariant-loop : goal.invariant-loop
invariant-loop g l =
    (goal.iterator-loop g).can_next l.iterator' × (goal.iterator-loop g).is_finite l.iterator' × IsOf l.queue l.pass × (l.pass.seat.number ≡ l.fn.pass.seat.number)
