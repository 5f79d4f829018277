-- A tenant's line of a picture.
--     line name heading marks      its name, its opening, bars of the values in the order of its rows, and its last value
use Rattle.std.specs.Prelude.{ℕ, ◌+◌, List, [], ◌∷◌, ◌++◌, codes, decimal}
use Rattle.std.specs.List.{flat_map}
use Rattle.picture_marks.specs.Marks.{columns_of, scale, top}
use Rattle.picture_marks.specs.declared.marks.Heading.{Heading}
use Rattle.picture_marks.specs.declared.marks.Mark.{Mark}

-- the value that the last mark of a column left
abbrev pub left_by : List Mark → ℕ
left_by [] = 0
left_by (mark ∷ []) = mark.after
left_by (mark ∷ marks) = left_by marks

-- one of the eight bars, of which the first is the lowest, in UTF-8
abbrev pub bar : ℕ → List ℕ
bar height = 226 ∷ 150 ∷ (129 + height) ∷ []

-- the bar of a column, on a scale with this top
abbrev pub column_bar : ℕ → List Mark → List ℕ
column_bar top column = bar (scale 7 top (left_by column))

-- a bar for each of at most 60 columns, or a dash where there is no row
abbrev pub bars : Heading → List Mark → List ℕ
bars heading [] = codes "-"
bars heading marks = flat_map (column_bar (top heading marks)) (columns_of 60 marks)

-- the line
abbrev pub line : List ℕ → Heading → List Mark → List ℕ
line name heading marks = name ++ codes " " ++ decimal heading.opening ++ codes " " ++ bars heading marks ++ codes " " ++ decimal heading.last ++ codes "\n"
