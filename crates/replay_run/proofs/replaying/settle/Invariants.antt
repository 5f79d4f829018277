use Rattle.std.proofs.Common.{◌≡◌, take, map}
use Rattle.replay_run.specs.Replay.{value_in}
use Rattle.replay_run.proofs.replaying.settle.Given as goal

abbrev pub invariant-loop-at : goal.invariant-loop-at
invariant-loop-at l = take l.at l.openings ≡ map value_in (take l.at l.books)
