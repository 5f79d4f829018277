use Rattle.std.proofs.Common.{◌≡◌, map, take}
use Rattle.replay_run.specs.Replay.{value_in}
use Rattle.tool_run.proofs.telling.values_of.Given as goal

abbrev pub invariant-loop-book : goal.invariant-loop-book
invariant-loop-book l = l.values.items ≡ map value_in (take l.book-index l.books)
