-- What holds of the columns, bounds, shares and scales of all marks.
use Rattle.std.specs.Prelude.{◌≡◌, ◌≢◌, ℕ, ◌<◌, ◌≤◌, ◌⊎◌, List, [], length, sum}
use Rattle.std.specs.Int.{div_ceil}
use Rattle.std.specs.List.{All, Any, flat_map}
use Rattle.picture_marks.specs.Marks.{columns_of, greatest_of, least_of, run_length, scale, shares_of, top}
use Rattle.picture_marks.specs.declared.marks.Heading.{Heading}
use Rattle.picture_marks.specs.declared.marks.Mark.{Mark}

-- joined together the columns are the marks: each once, in their order
abbrev pub ColumnsJoin : Type 0
ColumnsJoin = (most : ℕ) (marks : List Mark) → flat_map (λ column. column) (columns_of most marks) ≡ marks

-- each column has a mark
abbrev pub ColumnsHaveMarks : Type 0
ColumnsHaveMarks = (most : ℕ) (marks : List Mark) → All (λ column. 0 < length column) (columns_of most marks)

-- there are at most so many columns
abbrev pub ColumnsAreFew : Type 0
ColumnsAreFew = (most : ℕ) (marks : List Mark) → 1 ≤ most → length (columns_of most marks) ≤ most

-- columns of fewer marks each would be too many
abbrev pub RunsAreShort : Type 0
RunsAreShort = (most count size : ℕ) → 1 ≤ most → 1 ≤ size → div_ceil count size ≤ most → run_length most count ≤ size

-- what a mark met and left stands between two numbers
abbrev pub IsWithin : ℕ → ℕ → Mark → Type 0
IsWithin least most mark = (least ≤ mark.before) × (least ≤ mark.after) × (mark.before ≤ most) × (mark.after ≤ most)

-- the mark met or left the number
abbrev pub Has : ℕ → Mark → Type 0
Has number mark = (mark.before ≡ number) ⊎ (mark.after ≡ number)

-- no number of a mark is below the least one or above the greatest one
abbrev pub BoundsHold : Type 0
BoundsHold = (marks : List Mark) → All (IsWithin (least_of marks) (greatest_of marks)) marks

-- and both are numbers of marks
abbrev pub BoundsAreMet : Type 0
BoundsAreMet = (marks : List Mark) → marks ≢ [] → Any (Has (least_of marks)) marks × Any (Has (greatest_of marks)) marks

-- the bounds of each column stand below the top, and the least one below the greatest one
abbrev pub ColumnsFit : Type 0
ColumnsFit = (most : ℕ) (heading : Heading) (marks : List Mark)
    → All (λ column. (least_of column ≤ greatest_of column) × (greatest_of column ≤ top heading marks)) (columns_of most marks)

-- each mark of a column is a worker's
abbrev pub SharesAddUp : Type 0
SharesAddUp = (workers : ℕ) (column : List Mark) → All (λ mark. mark.worker < workers) column → sum (shares_of workers column) ≡ length column

-- a value up to the top stands within the size
abbrev pub ScaleFits : Type 0
ScaleFits = (size top value : ℕ) → value ≤ top → scale size top value ≤ size

-- a greater value doesn't stand lower
abbrev pub ScaleRises : Type 0
ScaleRises = (size top value more : ℕ) → value ≤ more → scale size top value ≤ scale size top more
