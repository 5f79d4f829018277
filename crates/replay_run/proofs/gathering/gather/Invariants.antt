use Rattle.std.proofs.Common.{◌≡◌, ◌<◌, ◌≤◌, ◌++◌, ℕ, length, take, slice_index}
use Rattle.std.specs.Vec.{vec_capacity}
use Rattle.replay_run.specs.Work.{gathered, of_worker, seats}
use Rattle.replay_run.proofs.gathering.gather.Given as goal

abbrev pub invariant-loop-row : goal.invariant-loop-row
invariant-loop-row l = record {
  next : (worker : ℕ) → worker < length l.places → slice_index l.next worker ≡ length (of_worker worker (take l.row-index l.rows));
  size : length l.next ≡ length l.places;
  answers : l.answers.items ≡ l.fn.answers.items ++ gathered (take l.row-index l.rows) (seats l.rows l.places);
  room : vec_capacity l.fn.answers ≤ vec_capacity l.answers;
}
