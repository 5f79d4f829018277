use Rattle.std.proofs.Common.{ℕ, ◌+◌, ◌*◌, List}
use Rattle.tq_cells.specs.Seen.{IsSame}
use Rattle.tq_queue.specs.Moves.{HasMissed}
use Rattle.tq_queue.proofs.taking.remove_in_turn.Given as goal

abbrev pub invariant-loop : goal.invariant-loop
invariant-loop g l =
    (goal.iterator-loop g).can_next l.iterator' × (goal.iterator-loop g).is_finite l.iterator' × IsSame l.fn.seat l.seat × ((founds : List ℕ) × HasMissed l.fn.seat (4 * l.ticket + 2) founds l.seat)
