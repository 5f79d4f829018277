use Rattle.std.proofs.Common.{◌≡◌, ℕ, ◌<◌, ◌==◌, get_or, length, take}
use Rattle.std.specs.List.{count_by}
use Rattle.picture_marks.proofs.measures.shares.Given as goal

abbrev pub invariant-loop-mark : goal.invariant-loop-mark
invariant-loop-mark l = record {
  count : length l.shares.items ≡ l.workers;
  each : (worker : ℕ) → worker < l.workers → get_or l.shares.items worker 0 ≡ count_by (λ mark. mark.worker == worker) (take l.mark-index l.column);
}
