use Rattle.std.proofs.Common.{◌≡◌, ◌+◌, ◌≤◌, map, vec_len, vec_capacity}
use Rattle.std.specs.Vec.Iter.{into_iter_len}
use Rattle.relay_run.specs.Work.{passes_in}
use Rattle.relay_run.proofs.gathering.Handed.take_in.Given as goal

abbrev pub invariant-loop-worker : goal.invariant-loop-worker
invariant-loop-worker l = record {
  passes : l.passes.items ≡ passes_in l.yielded;
  tickets : l.tickets.items ≡ map (λ worker. worker.tickets) l.yielded;
  room : vec_len l.passes + into_iter_len l.worker-iterator ≤ vec_capacity l.passes;
  tickets_room : vec_len l.tickets + into_iter_len l.worker-iterator ≤ vec_capacity l.tickets;
}
