-- One more exchange that found another word.
use Rattle.std.proofs.Common.{◌∷◌}
use Rattle.tq_queue.proofs.Told.{same_on}
use Rattle.tq_queue.proofs.taking.remove_in_turn.Goals as goal

pub loop-preserved : goal.loop-preserved
loop-preserved g c =
    let so_far = c.loop.invariant in (
      tt,
      tt,
      same_on c.args.seat.now c.loop.seat c.remove.new.seat so_far.2 c.remove.ensures.seat,
      (c.in-Err.field-0.found ∷ so_far.3.0, (c.loop.seat, so_far.3.1, c.in-Err.ensures.outcome)),
    )
