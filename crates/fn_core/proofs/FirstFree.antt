-- The first free row is free.
use Rattle.std.proofs.Common.{◌≡◌, inl, inr, ⊎_elim, ℕ, zero, suc, ◌+◌, ◌*◌, ◌%◌, ◌<◌, Bool, true, false, refl, sym, ◌∙◌, ap, subst, arith}
use Rattle.std.specs.Prelude.{◌||◌, ◌==◌, if◌then◌else◌, Option, Some, None}
use Rattle.std.proofs.lemmas.Bool.{cases_eq, eq-eqb, eqb-true, ltb-true, lt-ltb, false≢true, or_cases, or_left, or_right, and_parts, and_from}
use Rattle.std.proofs.lemmas.Nat.{div-mul-add, div-add-mod', mod_below}
use Rattle.fn_model.specs.declared.Kind.{Kind}
use Rattle.fn_rows.specs.Machine.{Lets, IsFree}
use Rattle.fn_rows.specs.Trace.{Traced}
use Rattle.fn_core.specs.Tree.{aggregator, member, members}
use Rattle.fn_core.specs.State.{Start, State}
use Rattle.fn_core.specs.Machine.{HasFreeRow, place}
use Rattle.fn_core.specs.Laws.{FreeRowsAreFound}
use Rattle.fn_core.specs.Order.{lets, all_below, first_below, is_free, first_free}

-- two tests that agree up to the first number of which one holds have the same first number
below_suc : (g : ℕ → Bool) → g 0 ≡ false → (k : ℕ) → ((j : ℕ) → j < k → g (suc j) ≡ false) → (j : ℕ) → j < suc k → g j ≡ false
below_suc g first k before zero lt = first
below_suc g first k before (suc j) lt = before j (omega arith)

pub first_same : (f g : ℕ → Bool) (n : ℕ) → ((k : ℕ) → k < n → ((j : ℕ) → j < k → g j ≡ false) → f k ≡ g k) → first_below f n ≡ first_below g n
unfolding first_below
first_same f g zero agree = refl
first_same f g (suc n) agree = by (g 0) refl (agree 0 (omega arith) (λ j lt. absurd (omega arith))) (λ first. first_same (λ k. f (suc k)) (λ k. g (suc k)) n (λ k lt before. agree (suc k) (omega arith) (below_suc g first k before)))
  where
    by : (b : Bool) → g 0 ≡ b → f 0 ≡ g 0 → (g 0 ≡ false → first_below (λ k. f (suc k)) n ≡ first_below (λ k. g (suc k)) n) → (if f 0 then 0 else suc (first_below (λ k. f (suc k)) n)) ≡ (if g 0 then 0 else suc (first_below (λ k. g (suc k)) n))
    by true is same rest = ap (λ (b : Bool). if b then 0 else suc (first_below (λ k. f (suc k)) n)) (same ∙ is) ∙ sym (ap (λ (b : Bool). if b then 0 else suc (first_below (λ k. g (suc k)) n)) is)
    by false is same rest = ap (λ (b : Bool). if b then 0 else suc (first_below (λ k. f (suc k)) n)) (same ∙ is) ∙ ap suc (rest is) ∙ sym (ap (λ (b : Bool). if b then 0 else suc (first_below (λ k. g (suc k)) n)) is)

-- where a test holds of some number below n, it holds of the first
pub first_holds : (test : ℕ → Bool) (n k : ℕ) → k < n → test k ≡ true → (first_below test n < n) × (test (first_below test n) ≡ true)
unfolding first_below
first_holds test zero k lt is = absurd (omega arith)
first_holds test (suc n) k lt is = by_first (test 0) refl k lt is (λ j less holds. first_holds (λ i. test (suc i)) n j less holds)
  where
    later : ℕ
    later = first_below (λ i. test (suc i)) n

    by_first : (b : Bool) → test 0 ≡ b → (k : ℕ) → k < suc n → test k ≡ true → ((j : ℕ) → j < n → test (suc j) ≡ true → (later < n) × (test (suc later) ≡ true)) → ((if b then 0 else suc later) < suc n) × (test (if b then 0 else suc later) ≡ true)
    by_first true e k lt is rest = (omega arith, e)
    by_first false e zero lt is rest = absurd (false≢true (sym e ∙ is))
    by_first false e (suc k) lt is rest = let found = rest k (omega arith) is in (omega (arith, found.0), found.1)

-- the first number below n of which a test holds is one of which it holds
first_found : (test : ℕ → Bool) (n : ℕ) → first_below test n < n → test (first_below test n) ≡ true
unfolding first_below
first_found test zero lt = absurd (omega arith)
first_found test (suc n) lt = by_first (test 0) refl lt (λ less. first_found (λ i. test (suc i)) n less)
  where
    later : ℕ
    later = first_below (λ i. test (suc i)) n

    by_first : (b : Bool) → test 0 ≡ b → (if b then 0 else suc later) < suc n → (later < n → test (suc later) ≡ true) → test (if b then 0 else suc later) ≡ true
    by_first true e lt rest = e
    by_first false e lt rest = rest (omega (arith, lt))

-- a test that holds of each number below n
all_hold : (test : ℕ → Bool) (n : ℕ) → all_below test n ≡ true → (k : ℕ) → k < n → test k ≡ true
unfolding all_below
all_hold test zero is k lt = absurd (omega arith)
all_hold test (suc n) is k lt =
    let both = and_parts (test n) (all_below test n) is in
    elim (cases_eq k n) [
      | inl e ↦ ap test e ∙ both.0
      | inr ne ↦ all_hold test n both.1 k (omega arith)
    ]

all_from : (test : ℕ → Bool) (n : ℕ) → ((k : ℕ) → k < n → test k ≡ true) → all_below test n ≡ true
unfolding all_below
all_from test zero each = refl
all_from test (suc n) each = and_from (test n) (all_below test n) (each n (omega arith)) (all_from test n (λ k lt. each k (omega arith)))

-- what was found lets the row be filled again
lets_means : (found : Option ℕ) (end : ℕ) → lets found end ≡ true → (word : ℕ) × (found ≡ Some word) × Lets word end
lets_means None end is = absurd (false≢true is)
lets_means (Some word) end is = (word, refl, ⊎_elim (λ e. inl (eqb-true word 0 e)) (λ e. inr (ltb-true end word e)) (or_cases (word == 0) _ is))

means_lets : (found : Option ℕ) (end word : ℕ) → found ≡ Some word → Lets word end → lets found end ≡ true
means_lets found end word is let_by = subst (λ (f : Option ℕ). lets f end ≡ true) (sym is) (⊎_elim (λ e. or_left (word == 0) _ (eq-eqb word 0 e)) (λ lt. or_right (word == 0) _ (lt-ltb end word lt)) let_by)

module _ (start : Start) (s : State) (kind : Kind) (level pass : ℕ) where
  abbrev m : ℕ
  m = member start.shape level pass

  abbrev t : Traced
  t = place start s kind level pass

  abbrev count : ℕ
  count = members start.shape level (aggregator start.shape pass level)

  pub is_free_means : (n : ℕ) → is_free start s kind level pass n ≡ true → IsFree count t.state m (m * start.shape.rows + n)
  is_free_means n is =
      let end : ℕ = t.end (m * start.shape.rows + n) in
      ⊎_elim (λ e. inl (eqb-true end 0 e))
      (λ all. inr (λ q lt ne. ⊎_elim (λ e. absurd (ne (eqb-true q m e))) (λ found. lets_means (t.found m q) end found) (or_cases (q == m) (lets (t.found m q) end) (all_hold (λ x. (x == m) || lets (t.found m x) end) count all q lt))))
      (or_cases (end == 0) _ is)

  pub means_is_free : (n : ℕ) → IsFree count t.state m (m * start.shape.rows + n) → is_free start s kind level pass n ≡ true
  means_is_free n (inl never) = or_left (t.end (m * start.shape.rows + n) == 0) _ (eq-eqb (t.end (m * start.shape.rows + n)) 0 never)
  means_is_free n (inr scans) =
      let end : ℕ = t.end (m * start.shape.rows + n) in
      or_right (end == 0) _ (all_from (λ x. (x == m) || lets (t.found m x) end) count (λ q lt. elim (cases_eq q m) [
        | inl e ↦ or_left (q == m) _ (eq-eqb q m e)
        | inr ne ↦ let found = scans q lt ne in or_right (q == m) _ (means_lets (t.found m q) end found.0 found.1 found.2)
      ]))

  -- where some row of the pass is free, the first free one is
  pub first_is_free : HasFreeRow start s kind level pass → (first_free start s kind level pass < start.shape.rows) × IsFree count t.state m (m * start.shape.rows + first_free start s kind level pass)
  first_is_free (r, mine, free) =
      let rows : ℕ = start.shape.rows in
      let same : r ≡ m * rows + r % rows = sym (div-add-mod' r rows) ∙ ap (λ (x : ℕ). x * rows + r % rows) mine in
      let is : is_free start s kind level pass (r % rows) ≡ true = means_is_free (r % rows) (subst (IsFree count t.state m) same free) in
      let first = first_holds (is_free start s kind level pass) rows (r % rows) (mod_below r rows (omega arith)) is in
      (first.0, is_free_means (first_free start s kind level pass) first.1)

  -- where the first free row is one of the pass's rows, it has a free row
  pub first_has_free : first_free start s kind level pass < start.shape.rows → HasFreeRow start s kind level pass
  first_has_free lt =
      let n : ℕ = first_free start s kind level pass in
      (m * start.shape.rows + n, div-mul-add m start.shape.rows n lt, is_free_means n (first_found (is_free start s kind level pass) start.shape.rows lt))

pub free_rows_are_found : FreeRowsAreFound
free_rows_are_found start s kind level pass = ((λ free. (first_is_free start s kind level pass free).0), first_has_free start s kind level pass)
