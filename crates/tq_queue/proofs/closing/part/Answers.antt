-- One more pass has gone to its parts.
use Rattle.std.proofs.Common.{ap, subst}
use Rattle.std.specs.Vec.{vec_len, vec_capacity}
use Rattle.std.proofs.lemmas.List.Elements.{All-push}
use Rattle.tq_queue.specs.Fours.{pick}
use Rattle.tq_queue.specs.Seen.{CallerView}
use Rattle.tq_queue.specs.Kept.{Keeps}
use Rattle.tq_queue.proofs.Parts.{parted, roomy, four_parted, four_roomy}
use Rattle.tq_queue.proofs.closing.part.Goals as goal

pub loop-pass-preserved : goal.loop-pass-preserved
loop-pass-preserved g c =
    let i = c.loop-pass.invariant in
    let p : CallerView g.row.T.Denot = c.in-Some.pass in
    let view = c.pass.view_is in
    let fewer = c.in-Some.ensures.steps.1 in
    record {
      seats = parted (λ (x : CallerView g.row.T.Denot). x.seat) c.loop-pass.yielded p _ _ _ c.push_reserved.ensures.items i.seats (ap (λ (x : CallerView g.row.T.Denot). x.seat) view);
      passes = four_parted c.loop-pass.yielded p c.pass.inside.seat c.pass.inside.passes (λ w. (pick w c.loop-pass.parts).items) (λ w. (pick w c.push_each.new.all).items) view c.push_each.ensures.items i.passes;
      kept = All-push Keeps c.loop-pass.yielded p i.kept (subst Keeps view c.pass.invariant);
      room_seats = roomy _ _ _ _ _ _ c.push_reserved.ensures.len c.push_reserved.ensures.capacity fewer i.room_seats;
      room = four_roomy _ _ (λ w. vec_len (pick w c.loop-pass.parts)) (λ w. vec_capacity (pick w c.loop-pass.parts)) (λ w. vec_len (pick w c.push_each.new.all)) (λ w. vec_capacity (pick w c.push_each.new.all)) c.push_each.ensures.len c.push_each.ensures.capacity fewer i.room;
    }
