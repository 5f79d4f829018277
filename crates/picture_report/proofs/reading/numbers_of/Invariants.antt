use Rattle.std.proofs.Common.{length}
use Rattle.std.specs.List.{All}
use Rattle.picture_report.specs.Told.{IsSmall}
use Rattle.picture_report.proofs.reading.numbers_of.Given as goal

abbrev pub invariant-loop-line : goal.invariant-loop-line
invariant-loop-line l = All IsSmall l.read.answers.items

abbrev pub decreases-loop-line : goal.decreases-loop-line
decreases-loop-line l = length l.lines
