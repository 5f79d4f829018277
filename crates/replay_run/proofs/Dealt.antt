-- One more row that is dealt.
use Rattle.std.proofs.Common.{◌≡◌, ◌+◌, ◌<◌, ℕ, List, [], ◌∷◌, ◌++◌, length, take, set, get_or, sym, ap, ◌∙◌, subst, arith, inl, inr, get_or-set_same, get_or-set_other}
use Rattle.std.proofs.lemmas.Bool.{cases_eq}
use Rattle.std.proofs.lemmas.List.{length-set, map-append}
use Rattle.std.proofs.lemmas.List.Elements.{All-push, All-same}
use Rattle.std.specs.List.{All}
use Rattle.trace_text.specs.declared.traces.Row.{Row}
use Rattle.replay_run.specs.declared.places.Place.{Place}
use Rattle.replay_run.specs.Work.{no_row, rows_at, of_worker, IsFresh}
use Rattle.replay_run.proofs.Rows.{own_more, other_more}

-- each worker has its own of the first rows to do
abbrev pub DealtTo : List Row → ℕ → List Place → Type 0
DealtTo rows i places = (worker : ℕ) (d : Place) → worker < length places → IsFresh rows (of_worker worker (take i rows)) (get_or places worker d).jobs

-- before the first row
pub dealt_none : (rows : List Row) (places : List Place) → All (λ (place : Place). (place.jobs.numbers.items ≡ []) × (place.jobs.answers.items ≡ [])) places → DealtTo rows 0 places
dealt_none rows places empty worker d below =
    let none = empty worker d below in
    record {
      within = All-same (λ (n : ℕ). n < length rows) (get_or places worker d).jobs.numbers.items [] none.0 (λ k d inside. absurd (omega arith));
      mine_are = ap (rows_at rows) none.0;
      none = none.1;
    }

pub dealt_more : (rows : List Row) (places : List Place) (i : ℕ) (place d : Place) → i < length rows → (get_or rows i no_row).worker < length places → DealtTo rows i places
    → place.jobs.numbers.items ≡ (get_or places (get_or rows i no_row).worker d).jobs.numbers.items ++ i ∷ [] → place.jobs.answers.items ≡ (get_or places (get_or rows i no_row).worker d).jobs.answers.items
    → DealtTo rows (i + 1) (set places (get_or rows i no_row).worker place)
dealt_more rows places i place d within here dealt numbers answers worker e below =
    let row : Row = get_or rows i no_row in
    let was = dealt row.worker d here in
    let old : List ℕ = (get_or places row.worker d).jobs.numbers.items in
    let Below : ℕ → Type 0 = λ n. n < length rows in
    let now : IsFresh rows (of_worker row.worker (take (i + 1) rows)) place.jobs = record {
      within = All-same Below place.jobs.numbers.items (old ++ i ∷ []) numbers (All-push Below old i was.within within);
      mine_are = ap (rows_at rows) numbers ∙ map-append (λ (n : ℕ). get_or rows n no_row) old (i ∷ []) ∙ ap (λ (rs : List Row). rs ++ row ∷ []) was.mine_are ∙ sym (own_more rows i within);
      none = answers ∙ was.none;
    } in
    elim (cases_eq worker row.worker) [
      | inl same ↦
          subst (λ (w : ℕ). IsFresh rows (of_worker w (take (i + 1) rows)) (get_or (set places row.worker place) w e).jobs) (sym same)
          (subst (λ (p : Place). IsFresh rows (of_worker row.worker (take (i + 1) rows)) p.jobs) (sym (get_or-set_same places row.worker place e here)) now)
      | inr other ↦
          subst (λ (rs : List Row). IsFresh rows rs (get_or (set places row.worker place) worker e).jobs) (sym (other_more rows i within worker (λ same. other (sym same))))
          (subst (λ (p : Place). IsFresh rows (of_worker worker (take i rows)) p.jobs) (sym (get_or-set_other places row.worker worker place e other)) (dealt worker e (omega (arith, below, length-set places row.worker place))))
    ]
