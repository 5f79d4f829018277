use Rattle.std.proofs.Common.{◌≤◌, length, arith}
use Rattle.std.specs.Fork.{slice_chunk}
use Rattle.picture_marks.specs.Marks.{greatest_of, least_of, run_length, top}
use Rattle.picture_marks.specs.declared.marks.Mark.{Mark}
use Rattle.std.proofs.Common.{List}
use Rattle.picture_marks.proofs.Bounds.{bounds-are_met, bounds-hold, greatest_of-chunk, least-le-greatest}
use Rattle.picture_marks.proofs.Cuts.{cut-All}
use Rattle.picture_marks.proofs.measures.bounds_laws.Goals as goal

pub returns-clause-hold : goal.returns-clause-hold
returns-clause-hold c = bounds-hold

pub returns-clause-met : goal.returns-clause-met
returns-clause-met c = bounds-are_met

pub returns-clause-fit : goal.returns-clause-fit
returns-clause-fit c most heading marks =
    let size = run_length most (length marks) in
    cut-All (λ (column : List Mark). (least_of column ≤ greatest_of column) × (greatest_of column ≤ top heading marks)) size marks
    (λ number. let below = greatest_of-chunk size marks number in (least-le-greatest (slice_chunk marks size number), omega arith))
