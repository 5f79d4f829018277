use Rattle.std.proofs.Common.{◌≡◌, ◌++◌, drop}
use Rattle.std.specs.List.{enumerate_from, flat_map}
use Rattle.picture_svg.specs.Svg.{part}
use Rattle.picture_svg.proofs.columns.push_shares.Given as goal

abbrev pub invariant-loop-worker : goal.invariant-loop-worker
invariant-loop-worker l =
    l.text.items ++ flat_map (part l.x l.width l.count) (drop l.worker (enumerate_from 0 l.shares)) ≡ l.initial.text.items ++ flat_map (part l.x l.width l.count) (enumerate_from 0 l.shares)
