-- Each name is read off its number, and each number below the number of words is that of a name.
use Rattle.std.proofs.Common.{◌≡◌, ℕ, zero, suc, ◌+◌, ◌-◌, ◌*◌, ◌/◌, ◌%◌, ◌<◌, inl, inr, arith, ap, refl, sym, ◌∙◌, ◌==◌, nat_lt}
use Rattle.std.proofs.lemmas.Bool.{cases_lt, cond-true, cond-false, lt-ltb, le-ltb, ne_eqb}
use Rattle.std.proofs.lemmas.Nat.{div-mul-add, mod-mul-add, div_below, mod_below, div-add-mod', mul-add-lt}
use Rattle.fn_model.specs.declared.Kind.{Kind}
use Rattle.fn_rows.specs.declared.Field.{Field}
use Rattle.fn_layout.specs.declared.shape.Shape.{Shape}
use Rattle.fn_layout.specs.Kinds.{IsFunnelled, kind_number, kind_read, field_number, field_read}
use Rattle.fn_layout.specs.Tree.{IsLevel}
use Rattle.fn_layout.specs.Words.{Name, Main, Value, Last, Done, Announcement, RowWord, IsNamed, aggregators, slots, words, aggregator_number, slot_number, row_number, first_announcement, first_row, number, read, aggregator_word_read, announcement_read, row_name, row_word_number}
use Rattle.fn_layout.specs.Laws.{NamesAreRead, NumbersAreNamed, NamesAreDistinct}
use Rattle.fn_layout.proofs.Numbers.{kind_number_below, kind_read-number, field_read-number, field_number_below, aggregator_number_below, slot_number_below, row_number_below, ReadsAggregator, reads_aggregator, aggregator_read, slot_read, field_number-read}

-- which part of the words a number lies in
read-aggregator_word : (s : Shape) (a place : ℕ) → a < 2 * aggregators s → place < 3 → read s (1 + (3 * a + place)) ≡ aggregator_word_read s a place
read-aggregator_word s a place h k =
    let n : ℕ = 1 + (3 * a + place) in
    let whole : (n - 1) / 3 ≡ a = omega arith in
    let rest : (n - 1) % 3 ≡ place = omega arith in
    cond-false (n == 0) _ _ (ne_eqb n 0 (λ e. omega arith)) ∙ cond-true (nat_lt n (first_announcement s)) _ _ (lt-ltb n _ (omega arith))
    ∙ ap (λ a. aggregator_word_read s a ((n - 1) % 3)) whole ∙ ap (aggregator_word_read s a) rest

read-announcement : (s : Shape) (slot : ℕ) → slot < slots s → read s (first_announcement s + slot) ≡ announcement_read s slot
read-announcement s slot h =
    let n : ℕ = first_announcement s + slot in
    let rest : n - first_announcement s ≡ slot = omega arith in
    cond-false (n == 0) _ _ (ne_eqb n 0 (λ e. omega arith)) ∙ cond-false (nat_lt n (first_announcement s)) _ _ (le-ltb n _ (omega arith))
    ∙ cond-true (nat_lt n (first_row s)) _ _ (lt-ltb n _ (omega arith)) ∙ ap (announcement_read s) rest

read-row_word : (s : Shape) (row place : ℕ) → place < 3 → read s (first_row s + (3 * row + place)) ≡ row_name s row (field_read place)
read-row_word s row place k =
    let n : ℕ = first_row s + (3 * row + place) in
    let whole : (n - first_row s) / 3 ≡ row = omega arith in
    let rest : (n - first_row s) % 3 ≡ place = omega arith in
    cond-false (n == 0) _ _ (ne_eqb n 0 (λ e. omega arith)) ∙ cond-false (nat_lt n (first_announcement s)) _ _ (le-ltb n _ (omega arith))
    ∙ cond-false (nat_lt n (first_row s)) _ _ (le-ltb n _ (omega arith))
    ∙ ap (λ a. row_name s a (field_read ((n - first_row s) % 3))) whole ∙ ap (λ place. row_name s row (field_read place)) rest

-- what is read off the number of a slot
pub record ReadsSlot (s : Shape) (pass : ℕ) (kind : Kind) (level n : ℕ) : Type 0 where
  pub of_pass : n / s.levels / 2 ≡ pass
  pub of_kind : kind_read (n / s.levels % 2) ≡ kind
  pub of_level : suc (n % s.levels) ≡ level

pub reads_slot : (s : Shape) (pass : ℕ) (kind : Kind) (level : ℕ) → IsFunnelled kind → IsLevel s level → ReadsSlot s pass kind level (slot_number s pass kind level)
reads_slot s pass kind level f l =
    let k : kind_number kind < 2 = kind_number_below kind f in
    let below : level - 1 < s.levels = omega arith in
    let n : ℕ = slot_number s pass kind level in
    let whole : n / s.levels ≡ 2 * pass + kind_number kind = div-mul-add (2 * pass + kind_number kind) s.levels (level - 1) below in
    let rest : n % s.levels ≡ level - 1 = mod-mul-add (2 * pass + kind_number kind) s.levels (level - 1) below in
    let parity : n / s.levels % 2 ≡ kind_number kind = omega (arith, whole) in
    record { of_pass = omega (arith, whole); of_kind = ap kind_read parity ∙ kind_read-number kind f; of_level = omega (arith, rest) }

-- the name read off a number
name_read : (s : Shape) (name : Name) → IsNamed s name → read s (number s name) ≡ name
name_read s Main h = refl
name_read s (Value kind level index) h =
    let r : ReadsAggregator s kind level index (aggregator_number s kind level index) = reads_aggregator s kind level index h in
    let at : 1 + 3 * aggregator_number s kind level index ≡ 1 + (3 * aggregator_number s kind level index + 0) = omega arith in
    ap (read s) at ∙ read-aggregator_word s (aggregator_number s kind level index) 0 (aggregator_number_below s kind level index h) (omega arith) ∙ cc (r.of_kind, r.of_level, r.of_index)
name_read s (Last kind level index) h =
    let r : ReadsAggregator s kind level index (aggregator_number s kind level index) = reads_aggregator s kind level index h in
    let at : 2 + 3 * aggregator_number s kind level index ≡ 1 + (3 * aggregator_number s kind level index + 1) = omega arith in
    ap (read s) at ∙ read-aggregator_word s (aggregator_number s kind level index) 1 (aggregator_number_below s kind level index h) (omega arith) ∙ cc (r.of_kind, r.of_level, r.of_index)
name_read s (Done kind level index) h =
    let r : ReadsAggregator s kind level index (aggregator_number s kind level index) = reads_aggregator s kind level index h in
    let at : 3 + 3 * aggregator_number s kind level index ≡ 1 + (3 * aggregator_number s kind level index + 2) = omega arith in
    ap (read s) at ∙ read-aggregator_word s (aggregator_number s kind level index) 2 (aggregator_number_below s kind level index h) (omega arith) ∙ cc (r.of_kind, r.of_level, r.of_index)
name_read s (Announcement pass kind level) h =
    let r : ReadsSlot s pass kind level (slot_number s pass kind level) = reads_slot s pass kind level h.1 h.2 in
    read-announcement s (slot_number s pass kind level) (slot_number_below s pass kind level h) ∙ cc (r.of_pass, r.of_kind, r.of_level)
name_read s (RowWord pass kind level row field) h =
    let slot : ℕ = slot_number s pass kind level in
    let r : ReadsSlot s pass kind level slot = reads_slot s pass kind level h.0.1 h.0.2 in
    let whole : row_number s pass kind level row / s.rows ≡ slot = div-mul-add slot s.rows row h.1 in
    let rest : row_number s pass kind level row % s.rows ≡ row = mod-mul-add slot s.rows row h.1 in
    read-row_word s (row_number s pass kind level row) (field_number field) (field_number_below field)
    ∙ ap (λ x. RowWord (x / s.levels / 2) (kind_read (x / s.levels % 2)) (suc (x % s.levels)) (row_number s pass kind level row % s.rows) (field_read (field_number field))) whole
    ∙ cc (r.of_pass, r.of_kind, r.of_level, rest, field_read-number field)

number_below : (s : Shape) (name : Name) → IsNamed s name → number s name < words s
number_below s Main h = omega arith
number_below s (Value kind level index) h = omega (arith, aggregator_number_below s kind level index h)
number_below s (Last kind level index) h = omega (arith, aggregator_number_below s kind level index h)
number_below s (Done kind level index) h = omega (arith, aggregator_number_below s kind level index h)
number_below s (Announcement pass kind level) h = omega (arith, slot_number_below s pass kind level h)
number_below s (RowWord pass kind level row field) h = omega (arith, row_number_below s pass kind level row h.0 h.1, field_number_below field)

pub names_are_read : NamesAreRead
names_are_read s name h = (name_read s name h, number_below s name h)

pub names_are_distinct : NamesAreDistinct
names_are_distinct s a b h k e = sym (name_read s a h) ∙ ap (read s) e ∙ name_read s b k

-- each of the three words of an aggregator, of a slot and of a row is the one that is read
aggregator_word_named : (s : Shape) (a place : ℕ) → a < 2 * aggregators s → place < 3 → IsNamed s (aggregator_word_read s a place) × (number s (aggregator_word_read s a place) ≡ 1 + (3 * a + place))
aggregator_word_named s a zero h k = let r = aggregator_read s a h in (r.0, omega (arith, r.1))
aggregator_word_named s a (suc zero) h k = let r = aggregator_read s a h in (r.0, omega (arith, r.1))
aggregator_word_named s a (suc (suc zero)) h k = let r = aggregator_read s a h in (r.0, omega (arith, r.1))
aggregator_word_named s a (suc (suc (suc place))) h k = absurd (omega arith)

announcement_named : (s : Shape) (slot : ℕ) → slot < slots s → IsNamed s (announcement_read s slot) × (number s (announcement_read s slot) ≡ first_announcement s + slot)
announcement_named s slot h = let r = slot_read s slot h in (r.0, omega (arith, r.1))

row_word_named : (s : Shape) (row place : ℕ) → row < slots s * s.rows → place < 3 → IsNamed s (row_name s row (field_read place)) × (number s (row_name s row (field_read place)) ≡ first_row s + (3 * row + place))
row_word_named s row place h k =
    let r = slot_read s (row / s.rows) (div_below row s.rows (slots s) (omega arith) h) in (
      (r.0, mod_below row s.rows (omega arith)),
      omega (arith, ap (λ x. x * s.rows) r.1, div-add-mod' row s.rows, field_number-read place k),
    )

pub numbers_are_named : NumbersAreNamed
numbers_are_named s zero h = (tt, refl)
numbers_are_named s (suc n) h =
    elim (cases_lt (suc n) (first_announcement s)) [
      | inl k ↦ (let at : suc n ≡ 1 + (3 * (n / 3) + n % 3) = omega arith in
          let a : n / 3 < 2 * aggregators s = omega arith in
          let r = aggregator_word_named s (n / 3) (n % 3) a (omega arith) in
          let e : read s (suc n) ≡ aggregator_word_read s (n / 3) (n % 3) = ap (read s) at ∙ read-aggregator_word s (n / 3) (n % 3) a (omega arith) in
          rw e (r.0, r.1 ∙ sym at))
      | inr k ↦ (elim (cases_lt (suc n) (first_row s)) [
        | inl l ↦ (let slot : ℕ = suc n - first_announcement s in
            let at : suc n ≡ first_announcement s + slot = omega arith in
            let r = announcement_named s slot (omega arith) in
            let e : read s (suc n) ≡ announcement_read s slot = ap (read s) at ∙ read-announcement s slot (omega arith) in
            rw e (r.0, r.1 ∙ sym at))
        | inr l ↦ (let rest : ℕ = suc n - first_row s in
            let at : suc n ≡ first_row s + (3 * (rest / 3) + rest % 3) = omega arith in
            let r = row_word_named s (rest / 3) (rest % 3) (omega arith) (omega arith) in
            let e : read s (suc n) ≡ row_name s (rest / 3) (field_read (rest % 3)) = ap (read s) at ∙ read-row_word s (rest / 3) (rest % 3) (omega arith) in
            rw e (r.0, r.1 ∙ sym at))
      ])
    ]

-- the name of a word of a pass's row
pub row_name-number : (s : Shape) (pass : ℕ) (kind : Kind) (level row : ℕ) (field : Field) → IsFunnelled kind → IsLevel s level → row < s.rows → row_name s (row_number s pass kind level row) field ≡ RowWord pass kind level row field
row_name-number s pass kind level row field f l k =
    let slot : ℕ = slot_number s pass kind level in
    let r : ReadsSlot s pass kind level slot = reads_slot s pass kind level f l in
    let whole : row_number s pass kind level row / s.rows ≡ slot = div-mul-add slot s.rows row k in
    let rest : row_number s pass kind level row % s.rows ≡ row = mod-mul-add slot s.rows row k in
    ap (λ x. RowWord (x / s.levels / 2) (kind_read (x / s.levels % 2)) (suc (x % s.levels)) (row_number s pass kind level row % s.rows) field) whole
    ∙ cc (r.of_pass, r.of_kind, r.of_level, rest)

-- a row whose words are named is one of the rows, and its words have the numbers of its name
pub row_named_below : (s : Shape) (row : ℕ) (field : Field) → IsNamed s (row_name s row field) → row < slots s * s.rows
row_named_below s row field h =
    let slot : ℕ = row / s.rows in
    let turn : slot / s.levels < 2 * s.passes = omega (arith, h.0.0) in
    let below : slot < slots s = omega (arith, mul-add-lt (slot / s.levels) s.levels (slot % s.levels) (2 * s.passes) turn (mod_below slot s.levels (omega arith)), div-add-mod' slot s.levels) in
    omega (arith, mul-add-lt slot s.rows (row % s.rows) (slots s) below (mod_below row s.rows (omega arith)), div-add-mod' row s.rows)

pub number-row_name : (s : Shape) (row : ℕ) (field : Field) → row < slots s * s.rows → number s (row_name s row field) ≡ row_word_number s row field
number-row_name s row field h =
    let r = slot_read s (row / s.rows) (div_below row s.rows (slots s) (omega arith) h) in
    omega (arith, ap (λ x. x * s.rows) r.1, div-add-mod' row s.rows)
