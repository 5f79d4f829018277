-- The rows of a slot, and the words of rows, by their numbers.
use Rattle.std.proofs.Common.{◌≡◌, ℕ, ◌+◌, ◌-◌, ◌*◌, ◌%◌, ◌<◌, ◌≤◌, arith, ap, ◌∙◌}
use Rattle.std.proofs.lemmas.Nat.{mod-mul-add, mul-add-lt}
use Rattle.fn_model.specs.declared.Kind.{Kind}
use Rattle.fn_rows.specs.declared.Field.{Field}
use Rattle.fn_rows.specs.declared.Field.TheVariants.{Lo}
use Rattle.fn_layout.specs.declared.shape.Shape.{Shape}
use Rattle.fn_layout.specs.Kinds.{kind_number}
use Rattle.fn_layout.specs.Tree.{first_widths}
use Rattle.fn_layout.specs.Words.{RowWord, Announcement, IsSlot, IsNamed, number, row_name, slot_number, row_number, row_word_number}
use Rattle.fn_layout.proofs.Tree.{width_above_le, first_widths_rises}
use Rattle.fn_layout.proofs.Numbers.{kind_number_below, slots_le, all_rows_le}
use Rattle.fn_layout.proofs.Read.{names_are_distinct, row_named_below}

-- what a slot of another pass adds to the announcement of the first one
pub announcement_on : (s : Shape) (pass : ℕ) (kind : Kind) (level : ℕ) → number s (Announcement 0 kind level) + 2 * pass * s.levels ≡ number s (Announcement pass kind level)
announcement_on s pass kind level = omega arith

-- rows of the first pass with the same number are the same
pub row_apart : (s : Shape) {kind k : Kind} {level l r r' : ℕ} → IsSlot s 0 kind level → IsSlot s 0 k l → r < s.rows → r' < s.rows → row_number s 0 k l r' ≡ row_number s 0 kind level r → (k ≡ kind) × (l ≡ level) × (r' ≡ r)
row_apart s {kind} {k} {level} {l} {r} {r'} slot slot' inside inside' e =
    let same : RowWord 0 k l r' Lo ≡ RowWord 0 kind level r Lo =
    names_are_distinct s (RowWord 0 k l r' Lo) (RowWord 0 kind level r Lo) (slot', inside') (slot, inside) (ap (λ (n : ℕ). row_word_number s n Lo) e) in
    (cc, cc, cc)

-- the first pass's rows are the first of all
pub row_inside : (s : Shape) {kind : Kind} {level r : ℕ} → IsSlot s 0 kind level → r < s.rows → row_number s 0 kind level r < 2 * s.levels * s.rows
row_inside s {kind} {level} {r} slot inside =
    let below : slot_number s 0 kind level < 2 * s.levels = omega (arith, mul-add-lt (kind_number kind) s.levels (level - 1) 2 (kind_number_below kind slot.1) (omega (arith, slot.2))) in
    omega (arith, mul-add-lt (slot_number s 0 kind level) s.rows r (2 * s.levels) below inside)

-- how far a row stands behind the first one of its slot
pub row_behind : (s : Shape) (pass : ℕ) (kind : Kind) (level : ℕ) {n row first : ℕ} → n < s.rows → row ≡ row_number s pass kind level n → first ≡ row_number s pass kind level 0 → (first ≤ row) × (row - first ≡ row % s.rows)
row_behind s pass kind level {n} {row} few is begins =
    let rest : row % s.rows ≡ n = ap (λ (x : ℕ). x % s.rows) is ∙ mod-mul-add (slot_number s pass kind level) s.rows n few in
    (omega (arith, is, begins), omega (arith, is, begins, rest))

-- .. whose number is that one's and its own number among them
pub row_follows : (s : Shape) (pass : ℕ) (kind : Kind) (level n : ℕ) {first : ℕ} → first ≡ row_number s pass kind level 0 → first + n ≡ row_number s pass kind level n
row_follows s pass kind level n begins = omega (arith, begins)

-- the words of rows begin low
pub rows_begin_low : (s : Shape) → row_word_number s 0 Lo ≤ 961
rows_begin_low s =
    let all : first_widths s.leaves s.levels ≤ first_widths s.leaves 3 = first_widths_rises s.leaves s.levels 3 s.levels_in_range.1 in
    omega (arith, all, width_above_le s.leaves 0, width_above_le s.leaves 1, width_above_le s.leaves 2, s.leaves_in_range, slots_le s)

-- .. and few rows stand before one
pub rows_few : (s : Shape) (row : ℕ) (field : Field) → IsNamed s (row_name s row field) → row < 3072
rows_few s row field named = omega (arith, row_named_below s row field named, all_rows_le s)
