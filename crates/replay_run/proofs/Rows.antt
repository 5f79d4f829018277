-- The rows of a worker among the first of a list of rows.
use Rattle.std.proofs.Common.{◌≡◌, ◌≢◌, ◌+◌, ◌<◌, ◌≤◌, ◌==◌, ℕ, zero, suc, Bool, not, List, [], ◌∷◌, ◌++◌, length, take, set, map, get_or, cond, refl, ap, ◌∙◌, arith, eq-eqb, ne_eqb, if◌then◌else◌, append-nil}
use Rattle.std.proofs.lemmas.List.Elements.{filter_more}
use Rattle.std.proofs.lemmas.List.Filters.{length-filter_more, sum_by-filter_both}
use Rattle.std.proofs.lemmas.List.Sums.{sum_by-take-le, length-filter, count_by-le-length}
use Rattle.trace_text.specs.SoundTrace.{amounts}
use Rattle.trace_text.specs.declared.traces.Row.{Row}
use Rattle.replay_run.specs.Work.{no_row, of_worker}

-- what changes nothing that f sees changes nothing of all that it sees
pub same_after : {A B : Type 0} (f : A → B) (xs : List A) (i : ℕ) (x d : A) → f x ≡ f (get_or xs i d) → map f (set xs i x) ≡ map f xs
same_after f [] i x d same = refl
same_after f (y ∷ ys) zero x d same = ap (λ z. z ∷ map f ys) same
same_after f (y ∷ ys) (suc i) x d same = ap (λ zs. f y ∷ zs) (same_after f ys i x d same)

abbrev is_worker : ℕ → Row → Bool
is_worker worker row = row.worker == worker

module _ (rows : List Row) (i : ℕ) (within : i < length rows) where
  abbrev row : Row
  row = get_or rows i no_row

  -- one row more is one more of its worker
  pub own_more : of_worker row.worker (take (i + 1) rows) ≡ of_worker row.worker (take i rows) ++ row ∷ []
  own_more = filter_more (is_worker row.worker) rows i no_row within ∙ ap (λ (b : Bool). of_worker row.worker (take i rows) ++ cond b (row ∷ []) []) (eq-eqb row.worker row.worker refl)

  -- and none of another
  pub other_more : (worker : ℕ) → row.worker ≢ worker → of_worker worker (take (i + 1) rows) ≡ of_worker worker (take i rows)
  other_more worker other =
      filter_more (is_worker worker) rows i no_row within ∙ ap (λ (b : Bool). of_worker worker (take i rows) ++ cond b (row ∷ []) []) (ne_eqb row.worker worker other) ∙ append-nil (of_worker worker (take i rows))

  pub own_count : length (of_worker row.worker (take (i + 1) rows)) ≡ length (of_worker row.worker (take i rows)) + 1
  own_count = length-filter_more (is_worker row.worker) rows i no_row within ∙ ap (λ (b : Bool). length (of_worker row.worker (take i rows)) + cond b 1 0) (eq-eqb row.worker row.worker refl)

  -- so fewer stand before it than in all
  pub own_within : length (of_worker row.worker (take i rows)) < length (of_worker row.worker rows)
  own_within =
      omega (arith, own_count, length-filter (is_worker row.worker) (take (i + 1) rows), length-filter (is_worker row.worker) rows, sum_by-take-le (λ (r : Row). cond (is_worker row.worker r) 1 0) rows (i + 1))

-- a worker has no more rows than there are
pub own_most : (worker : ℕ) (rows : List Row) → length (of_worker worker rows) ≤ length rows
own_most worker rows = omega (arith, length-filter (is_worker worker) rows, count_by-le-length (is_worker worker) rows)

-- a worker's amounts are among all
pub own_amounts : (tenant worker : ℕ) (rows : List Row) → amounts tenant (of_worker worker rows) ≤ amounts tenant rows
own_amounts tenant worker rows = omega (arith, sum_by-filter_both (is_worker worker) (λ (r : Row). not (is_worker worker r)) (λ r. refl) (λ (r : Row). if r.tenant == tenant then r.amount else 0) rows)
