use Rattle.std.proofs.Common.{◌≡◌, ◌++◌, drop}
use Rattle.std.specs.List.{flat_map, range_with_len}
use Rattle.picture_svg.specs.Svg.{track}
use Rattle.picture_svg.proofs.frame.push_tracks.Given as goal

abbrev pub invariant-loop-worker : goal.invariant-loop-worker
invariant-loop-worker l = l.text.items ++ flat_map track (drop l.worker (range_with_len 0 l.workers)) ≡ l.initial.text.items ++ flat_map track (range_with_len 0 l.workers)
