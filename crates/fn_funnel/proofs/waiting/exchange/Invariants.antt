use Rattle.fn_funnel.proofs.Straight.{HasTried}
use Rattle.fn_funnel.proofs.waiting.exchange.Given as goal

abbrev pub invariant-loop : goal.invariant-loop
invariant-loop g l =
    (goal.iterator-loop g).can_next l.iterator' × (goal.iterator-loop g).is_finite l.iterator' × HasTried l.table l.fn.pass l.kind l.amount l.pass
