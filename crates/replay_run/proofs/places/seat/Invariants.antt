use Rattle.std.proofs.Common.{◌≡◌, ◌++◌, [], All}
use Rattle.replay_run.specs.Work.{desks_at}
use Rattle.replay_run.proofs.places.seat.Given as goal

abbrev pub invariant-loop-desk : goal.invariant-loop-desk
invariant-loop-desk l = record {
  desks : desks_at l.places.items ++ l.desk-iterator.rest.items ≡ l.fn.desks.items;
  empty : All (λ place. (place.jobs.numbers.items ≡ []) × (place.jobs.answers.items ≡ [])) l.places.items;
}
