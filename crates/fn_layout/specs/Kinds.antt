-- The kinds of calls that go through aggregators, and the words of a row, by number.
use Rattle.std.specs.Prelude.{◌≢◌, ℕ, ◌==◌, if◌then◌else◌}
use Rattle.fn_model.specs.declared.Kind.{Kind}
use Rattle.fn_model.specs.declared.Kind.TheVariants.{Add, Sub, Read}
use Rattle.fn_rows.specs.declared.Field.{Field}
use Rattle.fn_rows.specs.declared.Field.TheVariants.{Lo, Base, Prev}

-- calls of this kind go through aggregators
abbrev pub IsFunnelled : Kind → Type 0
IsFunnelled kind = kind ≢ Read

-- the number of a kind
abbrev pub kind_number : Kind → ℕ
kind_number Add = 0
kind_number Sub = 1
kind_number Read = 2

-- the kind of a number
abbrev pub kind_read : ℕ → Kind
kind_read n = if n == 0 then Add else Sub

-- the place of a word in its row
abbrev pub field_number : Field → ℕ
field_number Lo = 0
field_number Base = 1
field_number Prev = 2

-- the word of a row at this place
abbrev pub field_read : ℕ → Field
field_read n = if n == 0 then Lo else (if n == 1 then Base else Prev)
