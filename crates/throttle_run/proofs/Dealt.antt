-- One more line that is dealt to its worker.
use Rattle.std.proofs.Common.{◌≡◌, ◌≢◌, ◌+◌, ◌<◌, ◌≤◌, ◌==◌, ℕ, zero, suc, Bool, not, List, [], ◌∷◌, ◌++◌, length, take, set, map, get_or, cond, refl, sym, ap, ◌∙◌, subst, arith, inl, inr, eq-eqb, ne_eqb, append-nil, get_or-set_same, get_or-set_other}
use Rattle.std.proofs.lemmas.Bool.{cases_eq}
use Rattle.std.proofs.lemmas.List.{length-set, length-map, get_or-map, map-append}
use Rattle.std.proofs.lemmas.List.Elements.{filter_more}
use Rattle.std.proofs.lemmas.List.Filters.{length-filter_more, sum_by-filter_both}
use Rattle.std.proofs.lemmas.List.Sums.{sum_by-take-le, length-filter, count_by-le-length}
use Rattle.std.specs.List.{sum_by}
use Rattle.quota_bucket.specs.Seen.{DeskView}
use Rattle.throttle_run.specs.declared.lines.ThrottleLine.{ThrottleLine}
use Rattle.throttle_run.specs.declared.workers.Job.{Job}
use Rattle.throttle_run.specs.declared.workers.Worker.{Worker}
use Rattle.throttle_run.specs.Throttled.{lines_of}
use Rattle.throttle_run.specs.Work.{lines_in, bare, desks_in, Each, IsDealt}

abbrev pub no_line : ThrottleLine
no_line = record { at = 0; worker = 0; now = 0; amount = 0 }

-- what changes nothing that f sees changes nothing of all that it sees
pub same_after : {A B : Type 0} (f : A → B) (xs : List A) (i : ℕ) (x d : A) → f x ≡ f (get_or xs i d) → map f (set xs i x) ≡ map f xs
same_after f [] i x d same = refl
same_after f (y ∷ ys) zero x d same = ap (λ z. z ∷ map f ys) same
same_after f (y ∷ ys) (suc i) x d same = ap (λ zs. f y ∷ zs) (same_after f ys i x d same)

abbrev is_worker : ℕ → ThrottleLine → Bool
is_worker worker line = line.worker == worker

module _ (lines : List ThrottleLine) (i : ℕ) (within : i < length lines) where
  abbrev line : ThrottleLine
  line = get_or lines i no_line

  -- one line more is one more of its worker
  pub own_more : lines_of line.worker (take (i + 1) lines) ≡ lines_of line.worker (take i lines) ++ line ∷ []
  own_more = filter_more (is_worker line.worker) lines i no_line within ∙ ap (λ (b : Bool). lines_of line.worker (take i lines) ++ cond b (line ∷ []) []) (eq-eqb line.worker line.worker refl)

  -- and none of another
  pub other_more : (worker : ℕ) → line.worker ≢ worker → lines_of worker (take (i + 1) lines) ≡ lines_of worker (take i lines)
  other_more worker other =
      filter_more (is_worker worker) lines i no_line within ∙ ap (λ (b : Bool). lines_of worker (take i lines) ++ cond b (line ∷ []) []) (ne_eqb line.worker worker other) ∙ append-nil (lines_of worker (take i lines))

  pub own_count : length (lines_of line.worker (take (i + 1) lines)) ≡ length (lines_of line.worker (take i lines)) + 1
  own_count = length-filter_more (is_worker line.worker) lines i no_line within ∙ ap (λ (b : Bool). length (lines_of line.worker (take i lines)) + cond b 1 0) (eq-eqb line.worker line.worker refl)

  -- so fewer stand before it than in all
  pub own_within : length (lines_of line.worker (take i lines)) < length (lines_of line.worker lines)
  own_within =
      omega (arith, own_count, length-filter (is_worker line.worker) (take (i + 1) lines), length-filter (is_worker line.worker) lines, sum_by-take-le (λ (l : ThrottleLine). cond (is_worker line.worker l) 1 0) lines (i + 1))

-- a worker has no more lines than there are
pub own_most : (worker : ℕ) (lines : List ThrottleLine) → length (lines_of worker lines) ≤ length lines
own_most worker lines = omega (arith, length-filter (is_worker worker) lines, count_by-le-length (is_worker worker) lines)

-- and its costs are among all
pub own_costs : (f : ThrottleLine → ℕ) (worker : ℕ) (lines : List ThrottleLine) → sum_by f (lines_of worker lines) ≤ sum_by f lines
own_costs f worker lines = omega (arith, sum_by-filter_both (is_worker worker) (λ (l : ThrottleLine). not (is_worker worker l)) (λ l. refl) f lines)

-- workers without lines have the desks
pub desks_of_bare : (desks : List DeskView) → desks_in (map bare desks) ≡ desks
desks_of_bare [] = refl
desks_of_bare (desk ∷ desks) = ap (λ (ds : List DeskView). desk ∷ ds) (desks_of_bare desks)

-- before the first line
pub dealt_none : (desks : List DeskView) → Each (IsDealt []) (map bare desks)
dealt_none desks w d below = ap (λ (x : Worker). lines_in x.jobs) (get_or-map bare desks w (get_or desks w d.desk) d (omega (arith, below, length-map desks bare)))

pub dealt_more : (lines : List ThrottleLine) (all : List Worker) (i : ℕ) (worker d : Worker) (job : Job) → i < length lines → (get_or lines i no_line).worker < length all → Each (IsDealt (take i lines)) all
    → worker.jobs ≡ (get_or all (get_or lines i no_line).worker d).jobs ++ job ∷ [] → job.line ≡ get_or lines i no_line → Each (IsDealt (take (i + 1) lines)) (set all (get_or lines i no_line).worker worker)
dealt_more lines all i worker d job within here dealt jobs is w e below =
    let line : ThrottleLine = get_or lines i no_line in
    elim (cases_eq w line.worker) [
      | inl same ↦
          let now : lines_in (get_or (set all line.worker worker) line.worker e).jobs ≡ lines_of line.worker (take (i + 1) lines) =
          ap (λ (p : Worker). lines_in p.jobs) (get_or-set_same all line.worker worker e here) ∙ ap lines_in jobs ∙ map-append (λ (j : Job). j.line) (get_or all line.worker d).jobs (job ∷ [])
          ∙ ap (λ (ls : List ThrottleLine). ls ++ job.line ∷ []) (dealt line.worker d here) ∙ ap (λ (l : ThrottleLine). lines_of line.worker (take i lines) ++ l ∷ []) is ∙ sym (own_more lines i within) in
          subst (λ (n : ℕ). lines_in (get_or (set all line.worker worker) n e).jobs ≡ lines_of n (take (i + 1) lines)) (sym same) now
      | inr other ↦
          ap (λ (p : Worker). lines_in p.jobs) (get_or-set_other all line.worker w worker e other) ∙ dealt w e (omega (arith, below, length-set all line.worker worker))
          ∙ sym (other_more lines i within w (λ s. other (sym s)))
    ]
