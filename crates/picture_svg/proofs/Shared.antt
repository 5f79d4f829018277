-- What the drawing needs to know of a tenant's columns and of the workers' shares in them.
use Rattle.std.proofs.Common.{◌≡◌, ℕ, ◌≤◌, ◌==◌, List, length, get_or, map, sym, subst, arith, Bor}
use Rattle.std.specs.List.{All, count_by}
use Rattle.std.specs.Fork.{slice_chunk}
use Rattle.std.proofs.lemmas.List.{get_or-map, length-map}
use Rattle.std.proofs.lemmas.List.FromFn.{get_or-map-range_with_len, length-map-range_with_len}
use Rattle.std.proofs.lemmas.List.Sums.{count_by-le-length}
use Rattle.picture_marks.specs.Marks.{columns_of, greatest_of, least_of, run_length, shares_of, top}
use Rattle.picture_marks.specs.declared.marks.Heading.{Heading}
use Rattle.picture_marks.specs.declared.marks.Mark.{Mark}
use Rattle.picture_marks.proofs.Bounds.{greatest_of-chunk, least-le-greatest}
use Rattle.picture_marks.proofs.Cuts.{cut-All}

-- there is a share for each worker
pub shares-count : (workers : ℕ) (marks : List Mark) → length (shares_of workers marks) ≡ workers
shares-count workers marks = length-map-range_with_len (λ worker. count_by (λ (mark : Mark). mark.worker == worker) marks) 0 workers

-- none is more than all
pub shares-within : (workers : ℕ) (marks : List Mark) → All (λ own. own ≤ length marks) (shares_of workers marks)
shares-within workers marks k d less =
    let count = shares-count workers marks in
    let here = get_or-map-range_with_len (λ worker. count_by (λ (mark : Mark). mark.worker == worker) marks) 0 workers k k d (omega arith) (omega arith) in
    rw here (count_by-le-length (λ (mark : Mark). mark.worker == k) marks)

-- no column is below 0 or above the top of the scale
abbrev IsBelow : ℕ → List Mark → Type 0
IsBelow peak marks = (least_of marks ≤ peak) × (greatest_of marks ≤ peak)

columns-below : (heading : Heading) (marks : List Mark) → All (IsBelow (top heading marks)) (columns_of 200 marks)
columns-below heading marks =
    let size = run_length 200 (length marks) in
    cut-All (IsBelow (top heading marks)) size marks
    (λ number. let below = greatest_of-chunk size marks number in let order = least-le-greatest (slice_chunk marks size number) in (omega arith, omega arith))

pub columns-fit : (heading : Heading) (marks : List Mark) (columns : List (Bor (List Mark))) → map (λ column. column.now) columns ≡ columns_of 200 marks
    → All (λ column. (least_of column.now ≤ top heading marks) × (greatest_of column.now ≤ top heading marks)) columns
columns-fit heading marks columns same k d less =
    let all : All (IsBelow (top heading marks)) (map (λ (column : Bor (List Mark)). column.now) columns) = subst (All (IsBelow (top heading marks))) (sym same) (columns-below heading marks) in
    let count = length-map columns (λ (column : Bor (List Mark)). column.now) in
    let here = get_or-map (λ (column : Bor (List Mark)). column.now) columns k d d.now less in
    let fits : IsBelow (top heading marks) (get_or (map (λ (column : Bor (List Mark)). column.now) columns) k d.now) = all k d.now (omega arith) in
    subst (IsBelow (top heading marks)) here fits
