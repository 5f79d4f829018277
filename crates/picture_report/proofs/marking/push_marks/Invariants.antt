use Rattle.std.proofs.Common.{◌≡◌, length, map, take}
use Rattle.std.specs.List.{zip}
use Rattle.picture_report.specs.Told.{all_marks}
use Rattle.picture_report.proofs.marking.push_marks.Given as goal

abbrev pub invariant-loop-i : goal.invariant-loop-i
invariant-loop-i l = map (λ list. list.items) l.lists ≡ all_marks (length l.initial.lists) (take l.i (zip l.rows l.answers))
