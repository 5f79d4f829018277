use Rattle.std.proofs.Common.{◌≡◌, ◌≤◌, ◌+◌, All, map}
use Rattle.std.specs.Vec.{vec_len, vec_capacity}
use Rattle.std.specs.Vec.Iter.{into_iter_len}
use Rattle.tq_queue.specs.Fours.{pick, AllFour}
use Rattle.tq_queue.specs.Kept.{Keeps}
use Rattle.tq_queue.proofs.closing.part.Given as goal

abbrev pub invariant-loop-pass : goal.invariant-loop-pass
invariant-loop-pass g l = record {
  seats : l.seats.items ≡ map (λ p. p.seat) l.yielded;
  passes : AllFour (λ w. (pick w l.parts).items ≡ map (λ p. pick w p.passes) l.yielded);
  kept : All Keeps l.yielded;
  room_seats : vec_len l.seats + into_iter_len l.pass-iterator ≤ vec_capacity l.seats;
  room : AllFour (λ w. vec_len (pick w l.parts) + into_iter_len l.pass-iterator ≤ vec_capacity (pick w l.parts));
}
