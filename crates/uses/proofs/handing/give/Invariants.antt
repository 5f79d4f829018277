use Rattle.std.proofs.Common.{◌≡◌}
use Rattle.uses.proofs.Handed.{HasLooked}
use Rattle.uses.proofs.handing.give.Given as goal

abbrev pub invariant-loop : goal.invariant-loop
invariant-loop g l = (goal.iterator-loop g).can_next l.iterator' × (goal.iterator-loop g).is_finite l.iterator' × HasLooked l.queue l.fn.pass l.pass × (l.item ≡ l.fn.item)
