use Rattle.std.proofs.Common.{◌≡◌, ◌+◌, ◌≤◌, ◌++◌, length}
use Rattle.std.specs.Vec.{vec_capacity}
use Rattle.replay_run.specs.Work.{desks_at}
use Rattle.replay_run.proofs.places.leave.Given as goal

abbrev pub invariant-loop-place : goal.invariant-loop-place
invariant-loop-place l = record {
  desks : l.desks.items ++ desks_at l.place-iterator.rest.items ≡ desks_at l.fn.places.items;
  room : length l.desks.items + length l.place-iterator.rest.items ≤ vec_capacity l.desks;
}
