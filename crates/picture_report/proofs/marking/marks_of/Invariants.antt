use Rattle.std.proofs.Common.{◌≡◌, take}
use Rattle.std.specs.List.{zip}
use Rattle.picture_report.specs.Told.{marks_at}
use Rattle.picture_report.proofs.marking.marks_of.Given as goal

abbrev pub invariant-loop-i : goal.invariant-loop-i
invariant-loop-i l = l.marks.items ≡ marks_at l.tenant (take l.i (zip l.rows l.answers))
