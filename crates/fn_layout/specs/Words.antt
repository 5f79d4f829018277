-- The words of a funnel: their names and their numbers.
--     IsNamed shape name      the shape has a word of this name
--     number shape name      the number of that word
--     read shape n      the name of word number n
--     words shape      how many words there are
use Rattle.std.specs.Prelude.{ℕ, zero, suc, ◌+◌, ◌-◌, ◌*◌, ◌/◌, ◌%◌, ◌<◌, ◌==◌, nat_lt, nat_le, if◌then◌else◌}
use Rattle.fn_model.specs.declared.Kind.{Kind}
use Rattle.fn_rows.specs.declared.Field.{Field}
use Rattle.fn_layout.specs.declared.shape.Shape.{Shape}
use Rattle.fn_layout.specs.Tree.{width, first_widths, IsLevel}
use Rattle.fn_layout.specs.Kinds.{IsFunnelled, kind_number, kind_read, field_number, field_read}

-- what a word is: the main word, one of the three words of an aggregator, what a pass announces, or one word of a row of a pass
pub data Name : Type 0 where
  Main : Name
  Value : (kind : Kind) (level index : ℕ) → Name
  Last : (kind : Kind) (level index : ℕ) → Name
  Done : (kind : Kind) (level index : ℕ) → Name
  Announcement : (pass : ℕ) (kind : Kind) (level : ℕ) → Name
  RowWord : (pass : ℕ) (kind : Kind) (level row : ℕ) (field : Field) → Name

-- the shape has this aggregator
abbrev pub IsAggregator : Shape → Kind → ℕ → ℕ → Type 0
IsAggregator s kind level index = IsFunnelled kind × IsLevel s level × (index < width s level)

-- a pass of the shape makes calls of this kind that reach this level
abbrev pub IsSlot : Shape → ℕ → Kind → ℕ → Type 0
IsSlot s pass kind level = (pass < s.passes) × IsFunnelled kind × IsLevel s level

-- the shape has a word of this name
abbrev pub IsNamed : Shape → Name → Type 0
IsNamed s Main = Unit {0}
IsNamed s (Value kind level index) = IsAggregator s kind level index
IsNamed s (Last kind level index) = IsAggregator s kind level index
IsNamed s (Done kind level index) = IsAggregator s kind level index
IsNamed s (Announcement pass kind level) = IsSlot s pass kind level
IsNamed s (RowWord pass kind level row field) = IsSlot s pass kind level × (row < s.rows)

-- how many aggregators a kind has
abbrev pub aggregators : Shape → ℕ
aggregators s = first_widths s.leaves s.levels

-- how many slots there are, that is pairs of pass, kind and level
abbrev pub slots : Shape → ℕ
slots s = 2 * s.passes * s.levels

-- the number of an aggregator
abbrev pub aggregator_number : Shape → Kind → ℕ → ℕ → ℕ
aggregator_number s kind level index = kind_number kind * aggregators s + (first_widths s.leaves (level - 1) + index)

-- the number of a slot
abbrev pub slot_number : Shape → ℕ → Kind → ℕ → ℕ
slot_number s pass kind level = (2 * pass + kind_number kind) * s.levels + (level - 1)

-- the number of a row of a slot
abbrev pub row_number : Shape → ℕ → Kind → ℕ → ℕ → ℕ
row_number s pass kind level row = slot_number s pass kind level * s.rows + row

-- behind main stand the words of the aggregators; this is the number of the first announcement
abbrev pub first_announcement : Shape → ℕ
first_announcement s = 1 + 6 * aggregators s

-- the number of the first word of a row
abbrev pub first_row : Shape → ℕ
first_row s = first_announcement s + slots s

-- how many words there are
abbrev pub words : Shape → ℕ
words s = first_row s + 3 * (slots s * s.rows)

-- the number of a word of the row of this number
abbrev pub row_word_number : Shape → ℕ → Field → ℕ
row_word_number s row field = first_row s + (3 * row + field_number field)

-- the number of the word of this name
abbrev pub number : Shape → Name → ℕ
number s Main = 0
number s (Value kind level index) = 1 + 3 * aggregator_number s kind level index
number s (Last kind level index) = 2 + 3 * aggregator_number s kind level index
number s (Done kind level index) = 3 + 3 * aggregator_number s kind level index
number s (Announcement pass kind level) = first_announcement s + slot_number s pass kind level
number s (RowWord pass kind level row field) = row_word_number s (row_number s pass kind level row) field

-- how many levels above the leaves an aggregator stands, by its place among those of its kind
abbrev pub height_read : ℕ → ℕ → ℕ → ℕ
height_read leaves zero n = 0
height_read leaves (suc above) n = if nat_le (first_widths leaves (suc above)) n then suc above else height_read leaves above n

-- the level of the aggregator of number n
abbrev pub level_read : Shape → ℕ → ℕ
level_read s n = suc (height_read s.leaves (s.levels - 1) (n % aggregators s))

-- its index on that level
abbrev pub index_read : Shape → ℕ → ℕ
index_read s n = n % aggregators s - first_widths s.leaves (height_read s.leaves (s.levels - 1) (n % aggregators s))

-- the name of a word of aggregator number n
abbrev pub aggregator_word_read : Shape → ℕ → ℕ → Name
aggregator_word_read s n place =
    let kind = kind_read (n / aggregators s) in
    if place == 0 then Value kind (level_read s n) (index_read s n)
    else (if place == 1 then Last kind (level_read s n) (index_read s n) else Done kind (level_read s n) (index_read s n))

-- the name of the announcement of slot number n
abbrev pub announcement_read : Shape → ℕ → Name
announcement_read s n = Announcement (n / s.levels / 2) (kind_read (n / s.levels % 2)) (suc (n % s.levels))

-- the name of a word of the row of this number
abbrev pub row_name : Shape → ℕ → Field → Name
row_name s row field =
    let slot = row / s.rows in
    RowWord (slot / s.levels / 2) (kind_read (slot / s.levels % 2)) (suc (slot % s.levels)) (row % s.rows) field

-- the name of word number n
abbrev pub read : Shape → ℕ → Name
read s n =
    if n == 0 then Main
    else (if nat_lt n (first_announcement s) then aggregator_word_read s ((n - 1) / 3) ((n - 1) % 3)
    else (if nat_lt n (first_row s) then announcement_read s (n - first_announcement s)
    else row_name s ((n - first_row s) / 3) (field_read ((n - first_row s) % 3))))
