use Rattle.std.proofs.Common.{[]}
use Rattle.tq_queue.specs.Seen.{IsOf}
use Rattle.relay_run.specs.Work.{Advances}
use Rattle.relay_run.proofs.desks.Desk.put.Given as goal

abbrev pub invariant-loop : goal.invariant-loop
invariant-loop g l =
    (goal.iterator-loop g).can_next l.iterator' × (goal.iterator-loop g).is_finite l.iterator' × IsOf l.queue l.desk.pass × Advances l.fn.self l.desk [] []
