use Rattle.std.proofs.Common.{◌≡◌, ◌++◌, take}
use Rattle.std.specs.List.{flat_map}
use Rattle.picture_line.specs.Line.{column_bar}
use Rattle.picture_line.proofs.bars.push_columns.Given as goal

abbrev pub invariant-loop-column : goal.invariant-loop-column
invariant-loop-column l = l.text.items ≡ l.initial.text.items ++ flat_map (λ column. column_bar l.top column.now) (take l.column-index l.column-items)
