-- A call begins in few steps.
use Rattle.std.proofs.Common.{◌≡◌, ℕ, suc, ◌+◌, ◌*◌, ◌≤◌, Bool, true, false, List, [], ◌∷◌, is_none, length, ◌∙◌, ap, arith}
use Rattle.std.specs.Prelude.{◌==◌, if◌then◌else◌}
use Rattle.std.specs.List.{range_with_len, flat_map}
use Rattle.std.proofs.lemmas.List.{length-map, length-append}
use Rattle.std.proofs.lemmas.List.FromFn.{length-range_with_len}
use Rattle.std.proofs.lemmas.List.Sums.{length-filter, count_by-le-length}
use Rattle.std.proofs.Math.Nat.{mul-add, mul_comm, mul-le-mul_right, suc-mul}
use Rattle.fn_model.specs.declared.Kind.{Kind}
use Rattle.fn_core.specs.declared.Move.{Move}
use Rattle.fn_core.specs.declared.Move.TheVariants.{Scan}
use Rattle.fn_layout.specs.declared.shape.Shape.{Shape}
use Rattle.fn_core.specs.Begin.{Finds, up_to, is_other, others, blocks_by, scanned_by, is_open_by, rows_tried_by, row_scans_by, level_scans_by, is_full_by, full_level_by, scans_by, first_steps, begin_moves_by}

up_to_short : {A : Type 0} (test : A → Bool) (xs : List A) → length (up_to test xs) ≤ length xs
up_to_short test [] = omega arith
up_to_short {A} test (x ∷ xs) = by (test x) (up_to_short test xs)
  where
    by : (b : Bool) → length (up_to test xs) ≤ length xs → suc (length (if b then [] else up_to test xs)) ≤ suc (length xs)
    by true short = omega arith
    by false short = omega (arith, short)

flat_map_short : {A B : Type 0} (f : A → List B) (k : ℕ) → ((x : A) → length (f x) ≤ k) → (xs : List A) → length (flat_map f xs) ≤ length xs * k
flat_map_short f k each [] = omega arith
flat_map_short f k each (x ∷ xs) = omega (arith, length-append (f x) (flat_map f xs), each x, flat_map_short f k each xs, suc-mul (length xs) k)

module _ (shape : Shape) (pass : ℕ) (kind : Kind) (finds : ℕ → Finds) where
  abbrev passes : ℕ
  passes = shape.passes

  abbrev rows : ℕ
  rows = shape.rows

  others_short : (level : ℕ) → length (others shape level pass) ≤ passes
  others_short level =
      let xs : List ℕ = range_with_len 0 passes in
      omega (arith, length-filter (is_other shape level pass) xs, count_by-le-length (is_other shape level pass) xs, length-range_with_len 0 passes)

  scanned_short : (level : ℕ) (words : ℕ → ℕ) (end : ℕ) → length (scanned_by shape level pass words end) ≤ passes
  scanned_short level words end = by (end == 0)
    where
      by : (b : Bool) → length (if b then [] else up_to (blocks_by words end) (others shape level pass)) ≤ passes
      by true = omega arith
      by false = omega (arith, up_to_short (blocks_by words end) (others shape level pass), others_short level)

  row_short : (level n : ℕ) → length (row_scans_by shape kind level pass (finds level) n) ≤ passes
  row_short level n =
      let words : ℕ → ℕ = (finds level).words n in
      let end : ℕ = (finds level).ends n in
      omega (arith, length-map (scanned_by shape level pass words end) (λ q. Scan kind level q), scanned_short level words end)

  level_short : (level : ℕ) → length (level_scans_by shape kind pass (finds level) level) ≤ rows * passes
  level_short level =
      let tried : List ℕ = rows_tried_by shape level pass (finds level) in
      let few : length tried ≤ rows = omega (arith, up_to_short (is_open_by shape level pass (finds level)) (range_with_len 0 rows), length-range_with_len 0 rows) in
      let all : length tried * passes ≤ rows * passes = mul-le-mul_right passes few in
      omega (arith, flat_map_short (row_scans_by shape kind level pass (finds level)) passes (row_short level) tried, all)

  scans_short : length (scans_by shape kind pass finds) ≤ shape.levels * (rows * passes)
  scans_short =
      let levels : ℕ = shape.levels in
      let tried : List ℕ = up_to (is_full_by shape pass finds) (range_with_len 1 levels) in
      let few : length tried ≤ levels = omega (arith, up_to_short (is_full_by shape pass finds) (range_with_len 1 levels), length-range_with_len 1 levels) in
      let all : length tried * (rows * passes) ≤ levels * (rows * passes) = mul-le-mul_right (rows * passes) few in
      omega (arith, flat_map_short (λ level. level_scans_by shape kind pass (finds level) level) (rows * passes) level_short tried, all)

  arriving_short : (amount : ℕ) (b : Bool) → length (if b then first_steps kind amount else []) ≤ 3
  arriving_short amount true = omega arith
  arriving_short amount false = omega arith

  pub begin_short : (amount : ℕ) → length (begin_moves_by shape pass kind amount finds) ≤ shape.levels * (passes * rows + 3)
  begin_short amount =
      let levels : ℕ = shape.levels in
      let some : 1 ≤ levels = shape.levels_in_range.0 in
      let last : List Move = if is_none (full_level_by shape pass finds) then first_steps kind amount else [] in
      let parts : levels * (passes * rows + 3) ≡ levels * (rows * passes) + levels * 3 = ap (λ (x : ℕ). levels * (x + 3)) (mul_comm passes rows) ∙ mul-add levels (rows * passes) 3 in
      omega (arith, length-append (scans_by shape kind pass finds) last, scans_short, arriving_short amount (is_none (full_level_by shape pass finds)), parts, some)
