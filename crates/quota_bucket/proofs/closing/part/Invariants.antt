use Rattle.std.proofs.Common.{◌≡◌, ◌≤◌, ◌+◌, map}
use Rattle.std.specs.Vec.{vec_len, vec_capacity}
use Rattle.std.specs.Vec.Iter.{into_iter_len}
use Rattle.quota_bucket.proofs.closing.part.Given as goal

abbrev pub invariant-loop-desk : goal.invariant-loop-desk
invariant-loop-desk l = record {
  passes : l.passes.items ≡ map (λ d. d.pass) l.yielded;
  seats : l.seats.items ≡ map (λ d. d.seat) l.yielded;
  room_passes : vec_len l.passes + into_iter_len l.desk-iterator ≤ vec_capacity l.passes;
  room_seats : vec_len l.seats + into_iter_len l.desk-iterator ≤ vec_capacity l.seats;
}
