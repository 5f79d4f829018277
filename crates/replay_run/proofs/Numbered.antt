-- The calls of rows, numbered, and the rows of a worker at a tenant.
use Rattle.std.proofs.Common.{◌≡◌, ◌≢◌, ◌+◌, ◌==◌, ◌&&◌, ℕ, suc, Bool, List, [], ◌∷◌, ◌++◌, length, true, false, cond, refl, sym, ap, ◌∙◌, arith, eq-eqb, ne_eqb, append-nil}
use Rattle.std.proofs.lemmas.List.Elements.{filter-append}
use Rattle.fn_model.specs.declared.Call.{Call}
use Rattle.trace_text.specs.declared.traces.Row.{Row}
use Rattle.replay_run.specs.Segments.{is_of, rows_of, call_of, calls_from}
use Rattle.replay_run.specs.Work.{of_worker}

pub length_calls : (n : ℕ) (rows : List Row) → length (calls_from n rows) ≡ length rows
length_calls n [] = refl
length_calls n (row ∷ rows) = ap suc (length_calls (suc n) rows)

-- one row more is one call more
pub calls_push : (n : ℕ) (rows : List Row) (row : Row) → calls_from n (rows ++ row ∷ []) ≡ calls_from n rows ++ call_of (n + length rows) row ∷ []
calls_push n [] row = ap (λ m. call_of m row ∷ []) (let e : n ≡ n + 0 = omega arith in e)
calls_push n (first ∷ rows) row =
    let e : suc n + length rows ≡ n + suc (length rows) = omega arith in
    ap (λ (calls : List Call). call_of n first ∷ calls) (calls_push (suc n) rows row ∙ ap (λ m. calls_from (suc n) rows ++ call_of m row ∷ []) e)

module _ (worker tenant : ℕ) (earlier : List Row) (row : Row) where
  abbrev kept : Bool → List Row
  kept b = rows_of worker tenant earlier ++ cond b (row ∷ []) []

  pushed : rows_of worker tenant (earlier ++ row ∷ []) ≡ kept (is_of worker tenant row)
  pushed = filter-append (is_of worker tenant) earlier (row ∷ [])

  -- a row of the worker and the tenant
  pub rows_push : row.worker ≡ worker → row.tenant ≡ tenant → rows_of worker tenant (earlier ++ row ∷ []) ≡ rows_of worker tenant earlier ++ row ∷ []
  rows_push mine here = pushed ∙ ap (λ (b : Bool). kept (b && (row.tenant == tenant))) (eq-eqb row.worker worker mine) ∙ ap kept (eq-eqb row.tenant tenant here)

  -- a row of another tenant
  pub rows_pass : row.tenant ≢ tenant → rows_of worker tenant (earlier ++ row ∷ []) ≡ rows_of worker tenant earlier
  rows_pass other = pushed ∙ ap (λ (b : Bool). kept ((row.worker == worker) && b)) (ne_eqb row.tenant tenant other) ∙ none (row.worker == worker)
    where
      none : (b : Bool) → kept (b && false) ≡ rows_of worker tenant earlier
      none true = append-nil (rows_of worker tenant earlier)
      none false = append-nil (rows_of worker tenant earlier)

-- a worker's rows at a tenant are among its rows
module _ (worker tenant : ℕ) (row : Row) (rows : List Row) where
  abbrev picked : Bool → List Row
  picked b = rows_of worker tenant (cond b (row ∷ of_worker worker rows) (of_worker worker rows))

  abbrev all : Bool → List Row
  all b = cond (b && (row.tenant == tenant)) (row ∷ rows_of worker tenant rows) (rows_of worker tenant rows)

  picked_is : (b : Bool) → (row.worker == worker) ≡ b → rows_of worker tenant (of_worker worker rows) ≡ rows_of worker tenant rows → picked (row.worker == worker) ≡ all (row.worker == worker)
  picked_is true is rest =
      ap picked is ∙ ap (λ (a : Bool). cond (a && (row.tenant == tenant)) (row ∷ rows_of worker tenant (of_worker worker rows)) (rows_of worker tenant (of_worker worker rows))) is
      ∙ ap (λ (xs : List Row). cond (row.tenant == tenant) (row ∷ xs) xs) rest ∙ sym (ap all is)
  picked_is false is rest = ap picked is ∙ rest ∙ sym (ap all is)

pub rows_own : (worker tenant : ℕ) (rows : List Row) → rows_of worker tenant (of_worker worker rows) ≡ rows_of worker tenant rows
rows_own worker tenant [] = refl
rows_own worker tenant (row ∷ rows) = picked_is worker tenant row rows (row.worker == worker) refl (rows_own worker tenant rows)
