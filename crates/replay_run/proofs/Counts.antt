-- One more answer that is gathered.
use Rattle.std.proofs.Common.{◌≡◌, ◌+◌, ◌<◌, ℕ, suc, List, [], ◌∷◌, ◌++◌, length, take, set, get_or, refl, sym, ap, ◌∙◌, subst, arith, inl, inr, append-nil, append_assoc, get_or-set_same, get_or-set_other}
use Rattle.std.proofs.lemmas.Bool.{cases_eq}
use Rattle.std.proofs.lemmas.List.{take_more, length-map}
use Rattle.quota_pool.specs.declared.moved.Moved.{Moved}
use Rattle.trace_text.specs.declared.traces.Row.{Row}
use Rattle.replay_run.specs.Work.{Job, Seat, no_row, of_worker, jobs_of, AreDealt, job_at, gathered_from, gathered}
use Rattle.replay_run.proofs.Rows.{own_count, own_within, other_more}

abbrev pub no_seat : Seat
no_seat = record { desk = record { worker = 0; passes = [] }; jobs = [] }

-- the answer of a row behind earlier ones
abbrev pub answer_of : List Row → List Seat → Row → Moved
answer_of earlier places row = (job_at (jobs_of places row.worker) (length (of_worker row.worker earlier))).answer

gathered-push : (earlier : List Row) (places : List Seat) (rows : List Row) (row : Row) → gathered_from earlier places (rows ++ row ∷ []) ≡ gathered_from earlier places rows ++ answer_of (earlier ++ rows) places row ∷ []
gathered-push earlier places [] row = ap (λ (e : List Row). answer_of e places row ∷ []) (sym (append-nil earlier))
gathered-push earlier places (first ∷ rows) row =
    ap (λ (answers : List Moved). answer_of earlier places first ∷ answers)
    (gathered-push (earlier ++ first ∷ []) places rows row ∙ ap (λ (e : List Row). gathered_from (earlier ++ first ∷ []) places rows ++ answer_of e places row ∷ []) (append_assoc earlier (first ∷ []) rows))

pub length_gathered : (earlier : List Row) (places : List Seat) (rows : List Row) → length (gathered_from earlier places rows) ≡ length rows
length_gathered earlier places [] = refl
length_gathered earlier places (row ∷ rows) = ap suc (length_gathered (earlier ++ row ∷ []) places rows)

module _ (rows : List Row) (places : List Seat) (i : ℕ) (within : i < length rows) where
  abbrev row : Row
  row = get_or rows i no_row

  pub gathered-more : gathered (take (i + 1) rows) places ≡ gathered (take i rows) places ++ answer_of (take i rows) places row ∷ []
  gathered-more = ap (λ (rs : List Row). gathered rs places) (take_more rows i no_row within) ∙ gathered-push [] places (take i rows) row

  -- the row's worker has a job for it
  pub job_there : AreDealt rows places → row.worker < length places → length (of_worker row.worker (take i rows)) < length (jobs_of places row.worker)
  job_there dealt here =
      let all = ap length (dealt row.worker here) in
      omega (arith, all, length-map (jobs_of places row.worker) (λ (job : Job). job.row), own_within rows i within)

  -- the places of the next jobs
  pub next_more : (next : List ℕ) (n : ℕ) → length next ≡ n → row.worker < n → ((worker : ℕ) → worker < n → get_or next worker 0 ≡ length (of_worker worker (take i rows)))
      → (worker : ℕ) → worker < n → get_or (set next row.worker (get_or next row.worker 0 + 1)) worker 0 ≡ length (of_worker worker (take (i + 1) rows))
  next_more next n size here known worker below =
      elim (cases_eq worker row.worker) [
        | inl same ↦
            subst (λ (w : ℕ). get_or (set next row.worker (get_or next row.worker 0 + 1)) w 0 ≡ length (of_worker w (take (i + 1) rows))) (sym same)
            (get_or-set_same next row.worker (get_or next row.worker 0 + 1) 0 (omega (arith, size)) ∙ ap (λ (n : ℕ). n + 1) (known row.worker here) ∙ sym (own_count rows i within))
        | inr other ↦
            get_or-set_other next row.worker worker (get_or next row.worker 0 + 1) 0 other ∙ known worker below ∙ sym (ap length (other_more rows i within worker (λ e. other (sym e))))
      ]
