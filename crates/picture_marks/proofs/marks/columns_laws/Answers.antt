use Rattle.std.proofs.Common.{length, arith}
use Rattle.std.proofs.lemmas.List.FromFn.{length-map-range_with_len}
use Rattle.std.specs.Fork.{slice_chunk}
use Rattle.std.specs.Int.{div_ceil}
use Rattle.picture_marks.specs.Marks.{run_length}
use Rattle.picture_marks.proofs.Cuts.{columns-few, cut-has_marks, cut-joins, runs-short}
use Rattle.picture_marks.proofs.marks.columns_laws.Goals as goal

pub returns-clause-joined : goal.returns-clause-joined
returns-clause-joined c most marks = cut-joins (run_length most (length marks)) marks (omega arith)

pub returns-clause-have_marks : goal.returns-clause-have_marks
returns-clause-have_marks c most marks = cut-has_marks (run_length most (length marks)) marks (omega arith)

pub returns-clause-few : goal.returns-clause-few
returns-clause-few c most marks some_columns =
    let size = run_length most (length marks) in
    let few = columns-few most (length marks) some_columns in
    omega (arith, length-map-range_with_len (slice_chunk marks size) 0 (div_ceil (length marks) size))

pub returns-clause-short : goal.returns-clause-short
returns-clause-short c = runs-short
