-- Numbers of aggregators, slots and rows, and how they are read.
use Rattle.std.proofs.Common.{◌≡◌, ℕ, zero, suc, ◌+◌, ◌-◌, ◌*◌, ◌/◌, ◌%◌, ◌<◌, ◌≤◌, inl, inr, arith, ap, refl, ◌∙◌, ◌==◌, nat_le}
use Rattle.std.proofs.lemmas.Bool.{cases_lt, cond-true, cond-false, cond_both, le-leb, lt-leb, leb-true, leb-false}
use Rattle.std.proofs.lemmas.Nat.{mul-le, mul-add-lt, div-mul-add, mod-mul-add, div_below, mod_below, div-add-mod'}
use Rattle.fn_model.specs.declared.Kind.{Kind}
use Rattle.fn_model.specs.declared.Kind.TheVariants.{Add, Sub, Read}
use Rattle.fn_rows.specs.declared.Field.{Field}
use Rattle.fn_rows.specs.declared.Field.TheVariants.{Lo, Base, Prev}
use Rattle.fn_layout.specs.declared.shape.Shape.{Shape}
use Rattle.fn_layout.specs.Kinds.{IsFunnelled, kind_number, kind_read, field_number, field_read}
use Rattle.fn_layout.specs.Tree.{width_above, first_widths}
use Rattle.fn_layout.specs.Words.{IsAggregator, IsSlot, aggregators, slots, aggregator_number, slot_number, row_number, height_read, level_read, index_read}
use Rattle.fn_layout.proofs.Tree.{in_widths, width-above}

-- the number of a kind that goes through aggregators is 0 or 1
pub kind_number_below : (kind : Kind) → IsFunnelled kind → kind_number kind < 2
kind_number_below Add h = omega arith
kind_number_below Sub h = omega arith
kind_number_below Read h = absurd (h refl)

pub kind_read-number : (kind : Kind) → IsFunnelled kind → kind_read (kind_number kind) ≡ kind
kind_read-number Add h = refl
kind_read-number Sub h = refl
kind_read-number Read h = absurd (h refl)

pub kind_read_funnelled : (n : ℕ) → IsFunnelled (kind_read n)
kind_read_funnelled n = cond_both (n == 0) Add Sub IsFunnelled (λ t e. cc) (λ t e. cc)

pub kind_number-read : (n : ℕ) → n < 2 → kind_number (kind_read n) ≡ n
kind_number-read zero h = refl
kind_number-read (suc zero) h = refl
kind_number-read (suc (suc n)) h = absurd (omega arith)

pub field_read-number : (field : Field) → field_read (field_number field) ≡ field
field_read-number Lo = refl
field_read-number Base = refl
field_read-number Prev = refl

pub field_number-read : (n : ℕ) → n < 3 → field_number (field_read n) ≡ n
field_number-read zero h = refl
field_number-read (suc zero) h = refl
field_number-read (suc (suc zero)) h = refl
field_number-read (suc (suc (suc n))) h = absurd (omega arith)

pub field_number_below : (field : Field) → field_number field < 3
field_number_below Lo = omega arith
field_number_below Base = omega arith
field_number_below Prev = omega arith

-- numbers are below how many there are
pub aggregator_number_below : (s : Shape) (kind : Kind) (level index : ℕ) → IsAggregator s kind level index → aggregator_number s kind level index < 2 * aggregators s
aggregator_number_below s kind level index h =
    let above : level - 1 < s.levels = omega arith in
    omega (arith, mul-add-lt (kind_number kind) (aggregators s) (first_widths s.leaves (level - 1) + index) 2 (kind_number_below kind h.0) (in_widths s.leaves s.levels (level - 1) index above (omega (arith, h.2, width-above s level))))

pub slot_number_below : (s : Shape) (pass : ℕ) (kind : Kind) (level : ℕ) → IsSlot s pass kind level → slot_number s pass kind level < slots s
slot_number_below s pass kind level h =
    let k : kind_number kind < 2 = kind_number_below kind h.1 in
    let a : 2 * pass + kind_number kind < 2 * s.passes = omega arith in
    let b : level - 1 < s.levels = omega arith in
    omega (arith, mul-add-lt (2 * pass + kind_number kind) s.levels (level - 1) (2 * s.passes) a b)

pub row_number_below : (s : Shape) (pass : ℕ) (kind : Kind) (level row : ℕ) → IsSlot s pass kind level → row < s.rows → row_number s pass kind level row < slots s * s.rows
row_number_below s pass kind level row h k = omega (arith, mul-add-lt (slot_number s pass kind level) s.rows row (slots s) (slot_number_below s pass kind level h) k)

pub slots_le : (s : Shape) → slots s ≤ 384
slots_le s = omega (arith, mul-le s.passes s.levels 64 3 s.passes_in_range.1 s.levels_in_range.1)

pub all_rows_le : (s : Shape) → slots s * s.rows ≤ 3072
all_rows_le s = omega (arith, mul-le (slots s) s.rows 384 8 (slots_le s) s.rows_in_range.1)

-- how high an aggregator stands is read off its place
height_read-at : (leaves top above index : ℕ) → above ≤ top → index < width_above leaves above → height_read leaves top (first_widths leaves above + index) ≡ above
height_read-at leaves zero above index h k = omega arith
height_read-at leaves (suc top) above index h k =
    elim (cases_lt above (suc top)) [
      | inl l ↦ (let below : first_widths leaves above + index < first_widths leaves (suc top) = in_widths leaves (suc top) above index l k in
          cond-false (nat_le (first_widths leaves (suc top)) (first_widths leaves above + index)) (suc top) (height_read leaves top (first_widths leaves above + index)) (lt-leb _ _ below)
          ∙ height_read-at leaves top above index (omega arith) k)
      | inr l ↦ (let e : suc top ≡ above = omega arith in
          let le : first_widths leaves (suc top) ≤ first_widths leaves above + index = omega (arith, ap (first_widths leaves) e) in
          cond-true (nat_le (first_widths leaves (suc top)) (first_widths leaves above + index)) (suc top) (height_read leaves top (first_widths leaves above + index)) (le-leb _ _ le)
          ∙ e)
    ]

-- what is read off the number of an aggregator
pub record ReadsAggregator (s : Shape) (kind : Kind) (level index n : ℕ) : Type 0 where
  pub of_kind : kind_read (n / aggregators s) ≡ kind
  pub of_level : level_read s n ≡ level
  pub of_index : index_read s n ≡ index

pub reads_aggregator : (s : Shape) (kind : Kind) (level index : ℕ) → IsAggregator s kind level index → ReadsAggregator s kind level index (aggregator_number s kind level index)
reads_aggregator s kind level index h =
    let place : ℕ = first_widths s.leaves (level - 1) + index in
    let below : level - 1 < s.levels = omega arith in
    let within : index < width_above s.leaves (level - 1) = omega (arith, h.2, width-above s level) in
    let inside : place < aggregators s = in_widths s.leaves s.levels (level - 1) index below within in
    let rest : aggregator_number s kind level index % aggregators s ≡ place = mod-mul-add (kind_number kind) (aggregators s) place inside in
    let whole : aggregator_number s kind level index / aggregators s ≡ kind_number kind = div-mul-add (kind_number kind) (aggregators s) place inside in
    let height : height_read s.leaves (s.levels - 1) (aggregator_number s kind level index % aggregators s) ≡ level - 1
    = ap (height_read s.leaves (s.levels - 1)) rest ∙ height_read-at s.leaves (s.levels - 1) (level - 1) index (omega arith) within in
    record {
      of_kind = ap kind_read whole ∙ kind_read-number kind h.0;
      of_level = omega (arith, height);
      of_index = omega (arith, rest, ap (first_widths s.leaves) height);
    }

-- how high the aggregator of a place below the sum of the first widths stands
pub record StandsAt (leaves top place above : ℕ) : Type 0 where
  pub high : above ≤ top
  pub behind : first_widths leaves above ≤ place
  pub within : place - first_widths leaves above < width_above leaves above

pub height_read-stands : (leaves top place : ℕ) → place < first_widths leaves (suc top) → StandsAt leaves top place (height_read leaves top place)
height_read-stands leaves zero place h = record { high = omega arith; behind = omega arith; within = omega arith }
height_read-stands leaves (suc top) place h =
    cond_both (nat_le (first_widths leaves (suc top)) place) (suc top) (height_read leaves top place) (StandsAt leaves (suc top) place)
    (λ e. (let le : first_widths leaves (suc top) ≤ place = leb-true _ _ e in record { high = omega arith; behind = le; within = omega arith }))
    (λ e. (let s : StandsAt leaves top place (height_read leaves top place) = height_read-stands leaves top place (leb-false _ _ e) in
    record { high = omega arith; behind = s.behind; within = s.within }))

-- the number that is read is that of an aggregator of the shape
pub aggregator_read : (s : Shape) (n : ℕ) → n < 2 * aggregators s
    → IsAggregator s (kind_read (n / aggregators s)) (level_read s n) (index_read s n) × (aggregator_number s (kind_read (n / aggregators s)) (level_read s n) (index_read s n) ≡ n)
aggregator_read s n h =
    let some : 0 < aggregators s = omega arith in
    let two : n / aggregators s < 2 = div_below n (aggregators s) 2 some h in
    let rest : n % aggregators s < aggregators s = mod_below n (aggregators s) some in
    let top : suc (s.levels - 1) ≡ s.levels = omega arith in
    let inside : n % aggregators s < first_widths s.leaves (suc (s.levels - 1)) = omega (arith, ap (first_widths s.leaves) top) in
    let at : StandsAt s.leaves (s.levels - 1) (n % aggregators s) (height_read s.leaves (s.levels - 1) (n % aggregators s)) = height_read-stands s.leaves (s.levels - 1) (n % aggregators s) inside in
    let kind : kind_number (kind_read (n / aggregators s)) * aggregators s ≡ n / aggregators s * aggregators s = ap (λ k. k * aggregators s) (kind_number-read (n / aggregators s) two) in
    let level : level_read s n - 1 ≡ height_read s.leaves (s.levels - 1) (n % aggregators s) = omega arith in
    let parts : n / aggregators s * aggregators s + n % aggregators s ≡ n = div-add-mod' n (aggregators s) in (
      (kind_read_funnelled (n / aggregators s), (omega arith, omega (arith, at.high)), at.within),
      omega (arith, kind, parts, at.behind, ap (first_widths s.leaves) level),
    )

-- the number that is read is that of a slot of the shape
pub slot_read : (s : Shape) (n : ℕ) → n < slots s
    → IsSlot s (n / s.levels / 2) (kind_read (n / s.levels % 2)) (suc (n % s.levels)) × (slot_number s (n / s.levels / 2) (kind_read (n / s.levels % 2)) (suc (n % s.levels)) ≡ n)
slot_read s n h =
    let whole : n / s.levels < 2 * s.passes = div_below n s.levels (2 * s.passes) (omega arith) h in
    let rest : n % s.levels < s.levels = mod_below n s.levels (omega arith) in
    let kind : kind_number (kind_read (n / s.levels % 2)) ≡ n / s.levels % 2 = kind_number-read (n / s.levels % 2) (omega arith) in
    let place : 2 * (n / s.levels / 2) + kind_number (kind_read (n / s.levels % 2)) ≡ n / s.levels = omega (arith, kind) in (
      (omega (arith, whole), kind_read_funnelled (n / s.levels % 2), (omega arith, omega arith)),
      omega (arith, ap (λ x. x * s.levels) place, div-add-mod' n s.levels),
    )
