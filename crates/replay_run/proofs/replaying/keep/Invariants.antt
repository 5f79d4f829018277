use Rattle.std.proofs.Common.{◌≡◌, ◌+◌, ◌≤◌, ◌++◌, length}
use Rattle.std.specs.Vec.{vec_capacity}
use Rattle.replay_run.proofs.replaying.keep.Given as goal

abbrev pub invariant-loop-book : goal.invariant-loop-book
invariant-loop-book l = record {
  books : l.kept.items ++ l.book-iterator.rest.items ≡ l.fn.kept.items ++ l.fn.books.items;
  room : length l.kept.items + length l.book-iterator.rest.items ≤ vec_capacity l.kept;
  grows : vec_capacity l.fn.kept ≤ vec_capacity l.kept;
}
