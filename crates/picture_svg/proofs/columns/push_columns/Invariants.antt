use Rattle.std.proofs.Common.{◌≡◌, ◌++◌, drop, length, map}
use Rattle.std.specs.List.{enumerate_from, flat_map}
use Rattle.picture_svg.specs.Svg.{column}
use Rattle.picture_svg.proofs.columns.push_columns.Given as goal

abbrev pub invariant-loop-i : goal.invariant-loop-i
invariant-loop-i l =
    l.text.items ++ flat_map (column l.workers l.peak (length l.columns)) (drop l.i (enumerate_from 0 (map (λ marks. marks.now) l.columns)))
    ≡ l.initial.text.items ++ flat_map (column l.workers l.peak (length l.columns)) (enumerate_from 0 (map (λ marks. marks.now) l.columns))
