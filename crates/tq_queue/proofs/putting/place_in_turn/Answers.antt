-- One more exchange that found another word.
use Rattle.std.proofs.Common.{◌∷◌, ◌∙◌}
use Rattle.tq_queue.proofs.Told.{same_on}
use Rattle.tq_queue.proofs.putting.place_in_turn.Goals as goal

pub loop-preserved : goal.loop-preserved
loop-preserved g c =
    let so_far = c.loop.invariant in (
      tt,
      tt,
      c.in-Err.ensures.outcome.0 ∙ so_far.2,
      same_on c.args.seat.now c.loop.seat c.place.new.seat so_far.3 c.place.ensures.seat,
      (c.in-Err.field-0-1.found ∷ so_far.4.0, (c.loop.seat, so_far.4.1, c.in-Err.ensures.outcome.1)),
    )
