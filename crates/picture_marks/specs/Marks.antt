-- A tenant's rows in the order of a trace, as a picture shows them.
--     columns_of most marks      the marks cut into at most so many columns
--     least_of marks, greatest_of marks      the least and the greatest number that the marks met or left
--     shares_of workers column      how many of a column's marks each worker has
--     scale size top value      how far up a value stands where the top stands at the size
--     top heading marks      the top of the scale
use Rattle.std.specs.Prelude.{ℕ, ◌*◌, ◌/◌, ◌==◌, min, max, List, [], ◌∷◌, length, map, count_by}
use Rattle.std.specs.Fork.{slice_chunk}
use Rattle.std.specs.Int.{div_ceil}
use Rattle.std.specs.List.{range_with_len}
use Rattle.picture_marks.specs.declared.marks.Heading.{Heading}
use Rattle.picture_marks.specs.declared.marks.Mark.{Mark}

-- how many marks a column has: as few as make at most so many columns, and at least one
abbrev pub run_length : ℕ → ℕ → ℕ
run_length most count = max 1 (div_ceil count most)

-- the columns, each of the marks that follow those before it; the last one may be shorter
abbrev pub columns_of : ℕ → List Mark → List (List Mark)
columns_of most marks = let size = run_length most (length marks) in map (slice_chunk marks size) (range_with_len 0 (div_ceil (length marks) size))

-- the lesser and the greater of the numbers that a mark met and left
abbrev pub low : Mark → ℕ
low mark = min mark.before mark.after

abbrev pub high : Mark → ℕ
high mark = max mark.before mark.after

-- the least number that the marks met or left, or 0 where there are none
abbrev pub least_of : List Mark → ℕ
least_of [] = 0
least_of (mark ∷ []) = low mark
least_of (mark ∷ marks) = min (low mark) (least_of marks)

-- the greatest one, or 0 where there are none
abbrev pub greatest_of : List Mark → ℕ
greatest_of [] = 0
greatest_of (mark ∷ marks) = max (high mark) (greatest_of marks)

-- how many of the marks each worker has, from worker 0 on
abbrev pub shares_of : ℕ → List Mark → List ℕ
shares_of workers column = map (λ worker. count_by (λ mark. mark.worker == worker) column) (range_with_len 0 workers)

-- how far up a value stands on a scale of this size, whose top stands at the size
abbrev pub scale : ℕ → ℕ → ℕ → ℕ
scale size top value = value * size / top

-- the top of the scale: the greatest of 1, the opening, the last value and all that the marks met or left
abbrev pub top : Heading → List Mark → ℕ
top heading marks = max 1 (max (max heading.opening heading.last) (greatest_of marks))
