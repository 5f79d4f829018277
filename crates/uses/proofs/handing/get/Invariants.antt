use Rattle.uses.proofs.Handed.{HasSought}
use Rattle.uses.proofs.handing.get.Given as goal

abbrev pub invariant-loop : goal.invariant-loop
invariant-loop g l = (goal.iterator-loop g).can_next l.iterator' × (goal.iterator-loop g).is_finite l.iterator' × HasSought l.queue l.fn.pass l.pass
