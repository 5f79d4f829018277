-- The rows of a drill, one after the other, and their sums.
use Rattle.std.proofs.Common.{◌≡◌, ℕ, zero, suc, ◌+◌, ◌*◌, ◌<◌, ◌≤◌, ◌^◌, Bool, true, false, List, [], ◌∷◌, ◌++◌, map, get_or, ap, ◌∙◌, arith, add-one}
use Rattle.std.specs.Prelude.{codes, ◌%◌, ◌==◌, if◌then◌else◌}
use Rattle.std.specs.List.{All, range_with_len}
use Rattle.std.proofs.lemmas.List.FromFn.{get_or-map-range_with_len, length-map-range_with_len}
use Rattle.std.proofs.lemmas.List.{map-append}
use Rattle.std.proofs.lemmas.List.Sums.{sum_by-append, sum_by-cons, sum_by-le}
use Rattle.trace_text.specs.Drill.{drill, drill_amount, drill_op, drill_row, drill_rows, taken, total_taken}
use Rattle.trace_text.specs.SoundTrace.{IsAmount, IsSoundRow, IsSoundTrace, IsWithinCap, StaysBelow, amounts}
use Rattle.trace_text.specs.declared.traces.Op.{Op}
use Rattle.trace_text.specs.declared.traces.Op.TheVariants.{Add, Take, Direct, Read}
use Rattle.trace_text.specs.declared.traces.Row.{Row}
use Rattle.trace_text.specs.declared.traces.Tenant.{Tenant}
use Rattle.text_lines.specs.declared.pieces.TheConstants.{MOST_NUMBER}

-- a range with one more number
range-more : (a n : ℕ) → range_with_len a (suc n) ≡ range_with_len a n ++ (a + n) ∷ []
range-more a zero = let same : a ≡ a + 0 = omega arith in ap (λ m. m ∷ []) same
range-more a (suc n) =
    let same : a + 1 + n ≡ a + suc n = omega arith in
    ap (λ rest. a ∷ rest) (range-more (a + 1) n ∙ ap (λ m. range_with_len (a + 1) n ++ m ∷ []) same)

-- one more row
pub drill_rows-more : (seed i workers : ℕ) → drill_rows seed (i + 1) workers ≡ drill_rows seed i workers ++ drill_row seed workers i ∷ []
drill_rows-more seed i workers =
    let first : range_with_len 0 (i + 1) ≡ range_with_len 0 i ++ (0 + i) ∷ [] = rw add-one (range-more 0 i) in
    let same : 0 + i ≡ i = omega arith in
    ap (map (drill_row seed workers)) (first ∙ ap (λ m. range_with_len 0 i ++ m ∷ []) same) ∙ map-append (drill_row seed workers) (range_with_len 0 i) (i ∷ [])

pub total_taken-more : (rows : List Row) (row : Row) → total_taken (rows ++ row ∷ []) ≡ total_taken rows + taken row.op row.amount
total_taken-more rows row =
    let all = sum_by-append (λ (r : Row). taken r.op r.amount) rows (row ∷ []) in
    let one = sum_by-cons (λ (r : Row). taken r.op r.amount) row [] in
    omega arith

-- what holds of the one element
one-element : {X : Type 0} (P : X → Type 0) (x : X) → P x → All P (x ∷ [])
one-element P x p zero d less = p
one-element P x p (suc k) d less = absurd (omega arith)

-- what holds of each row by its number
each-row : (P : Row → Type 0) (seed rows workers : ℕ) → ((i : ℕ) → P (drill_row seed workers i)) → All P (drill_rows seed rows workers)
each-row P seed rows workers p k d less =
    let count = length-map-range_with_len (drill_row seed workers) 0 rows in
    rw (get_or-map-range_with_len (drill_row seed workers) 0 rows k k d (omega arith) (omega arith)) (p k)

amount_is : (seed i : ℕ) (b : Bool) → IsAmount (if b then Take else Add) (drill_amount seed i)
amount_is seed i true = omega arith
amount_is seed i false = omega arith

taken-le : (op : Op) (amount : ℕ) → taken op amount ≤ amount
taken-le Add amount = omega arith
taken-le Take amount = omega arith
taken-le Direct amount = omega arith
taken-le Read amount = omega arith

amount-le : (seed i : ℕ) → drill_amount seed i ≤ 97
amount-le seed i = omega arith

total_taken-le : (seed rows workers : ℕ) → total_taken (drill_rows seed rows workers) ≤ rows * 97
total_taken-le seed rows workers =
    let count = length-map-range_with_len (drill_row seed workers) 0 rows in
    let sum = sum_by-le (λ (row : Row). taken row.op row.amount) 97 (drill_rows seed rows workers)
    (each-row (λ row. taken row.op row.amount ≤ 97) seed rows workers (λ i. (let le = taken-le (drill_op i) (drill_amount seed i) in let small = amount-le seed i in omega arith))) in
    rw count at sum

amounts-le : (seed rows workers : ℕ) → amounts 0 (drill_rows seed rows workers) ≤ rows * 97
amounts-le seed rows workers =
    let count = length-map-range_with_len (drill_row seed workers) 0 rows in
    let sum = sum_by-le (λ (row : Row). if row.tenant == 0 then row.amount else 0) 97 (drill_rows seed rows workers)
    (each-row (λ row. (if row.tenant == 0 then row.amount else 0) ≤ 97) seed rows workers (λ i. amount-le seed i)) in
    rw count at sum

only-tenant : (rows : List Row) (opening i : ℕ) (d : Tenant) → i < 1 → opening + amounts 0 rows < 2 ^ 63
    → StaysBelow i (get_or (record { name = codes "drill"; opening = opening; cap = MOST_NUMBER } ∷ []) i d).cap (get_or (record { name = codes "drill"; opening = opening; cap = MOST_NUMBER } ∷ []) i d).opening 0 rows []
only-tenant rows opening zero d less small = small
only-tenant rows opening (suc i) d less small = absurd (omega arith)

pub drill-sound : (seed rows workers : ℕ) → rows ≤ 1000000 → 1 ≤ workers → IsSoundTrace workers (drill seed rows workers)
drill-sound seed rows workers few some_worker =
    let opening = total_taken-le seed rows workers in
    let sum = amounts-le seed rows workers in
    record {
      few = omega arith;
      tenants = one-element IsWithinCap _ (record { opening = omega arith; cap = omega arith });
      rows = each-row (IsSoundRow workers 1) seed rows workers (λ i. record { worker = omega arith; tenant = omega arith; amount = amount_is seed i (i % 3 == 2) });
      cuts_few = omega arith;
      cuts = omega arith;
      below = λ i d less. only-tenant (drill_rows seed rows workers) (total_taken (drill_rows seed rows workers)) i d less (omega arith);
    }
