use Rattle.std.proofs.Common.{◌+◌, ◌*◌, ◌≤◌, length}
use Rattle.std.specs.Vec.{vec_capacity}
use Rattle.replay_run.proofs.Course.{Stands}
use Rattle.replay_run.proofs.replaying.replay.Given as goal

abbrev pub invariant-loop-cut : goal.invariant-loop-cut
invariant-loop-cut g l = record {
  stands : Stands l.workers l.tenants l.rows l.cut-items l.cut-index l.before l.openings.items l.replayed.answers.items l.replayed.books.items;
  room : length l.rows ≤ vec_capacity l.replayed.answers;
  shelf : (length l.cut-items + 1) * length l.tenants ≤ vec_capacity l.replayed.books;
}
