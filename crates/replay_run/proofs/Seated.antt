-- Places as seats: their rows, with the answers that they have.
use Rattle.std.proofs.Common.{◌≡◌, ◌+◌, ◌<◌, ◌≤◌, ℕ, zero, suc, List, [], ◌∷◌, ◌++◌, length, take, drop, get_or, refl, sym, ap, ◌∙◌, subst, arith, append-nil, append_assoc}
use Rattle.std.proofs.lemmas.List.{take_more, drop_more, map-append, get_or-map, length-map, length-append}
use Rattle.quota_pool.specs.Views.{PoolView, DeskView}
use Rattle.quota_pool.specs.declared.moved.Moved.{Moved}
use Rattle.trace_text.specs.declared.traces.Row.{Row}
use Rattle.replay_run.specs.declared.places.Place.{Place}
use Rattle.replay_run.specs.Work.{Job, Seat, AreFresh, no_row, rows_at, rows_in, answers_in, of_worker, answered, job_at, jobs_of, MayRun, Called, HasMade, HaveAnswers, AreDealt, desks_at, desks_in, seat_of, seats}
use Rattle.replay_run.proofs.Rows.{own_within}
use Rattle.replay_run.proofs.Counts.{no_seat, answer_of}
use Rattle.replay_run.proofs.Runs.{ran_more}

-- what a worker's answers say of its rows
pub rows_answered : (rows : List Row) (answers : List Moved) → rows_in (answered rows answers) ≡ rows
rows_answered [] answers = refl
rows_answered (row ∷ rows) [] = ap (λ (rs : List Row). row ∷ rs) (rows_answered rows [])
rows_answered (row ∷ rows) (answer ∷ answers) = ap (λ (rs : List Row). row ∷ rs) (rows_answered rows answers)

-- jobs are their rows with their answers
pub answered_again : (jobs : List Job) → answered (rows_in jobs) (answers_in jobs) ≡ jobs
answered_again [] = refl
answered_again (job ∷ jobs) = ap (λ (js : List Job). job ∷ js) (answered_again jobs)

pub answer_there : (rows : List Row) (answers : List Moved) (n : ℕ) (d : Moved) → n < length rows → n < length answers → (job_at (answered rows answers) n).answer ≡ get_or answers n d
answer_there [] answers n d inside within = absurd (omega arith)
answer_there (row ∷ rows) [] n d inside within = absurd (omega arith)
answer_there (row ∷ rows) (answer ∷ answers) zero d inside within = refl
answer_there (row ∷ rows) (answer ∷ answers) (suc n) d inside within = answer_there rows answers n d (omega arith) (omega arith)

-- a seat has its place's desk
pub desks_seated : (rows : List Row) (places : List Place) → desks_in (seats rows places) ≡ desks_at places
desks_seated rows [] = refl
desks_seated rows (place ∷ places) = ap (λ (desks : List DeskView). place.desk ∷ desks) (desks_seated rows places)

-- no row, no answer
pub made_none : (pool : PoolView) (desk : DeskView) (answers : List Moved) → HasMade pool desk [] answers answers desk
made_none pool desk answers = record { jobs = []; rows_are = refl; added = sym (append-nil answers); ran = refl }

-- an answer more for each row
pub made_count : (pool : PoolView) (old new : DeskView) (rows : List Row) (before after : List Moved) → HasMade pool old rows before after new → length after ≡ length before + length rows
made_count pool old new rows before after made =
    omega (arith, ap length made.added, length-append before (answers_in made.jobs), length-map made.jobs (λ (j : Job). j.answer), ap length made.rows_are, length-map made.jobs (λ (j : Job). j.row))

module _ (pool : PoolView) (old mid : DeskView) (mine : List Row) (i : ℕ) (before middle : List Moved) (within : i < length mine) where
  abbrev row : Row
  row = get_or mine i no_row

  -- the next row's call
  pub made_more : (answer : Moved) (new : DeskView) (after : List Moved) → HasMade pool old (take i mine) before middle mid → Called pool mid (record { row = row; answer = answer }) new → after ≡ middle ++ answer ∷ []
      → HasMade pool old (take (i + 1) mine) before after new
  made_more answer new after made called added =
      let job : Job = record { row = row; answer = answer } in
      record {
        jobs = made.jobs ++ job ∷ [];
        rows_are = map-append (λ (j : Job). j.row) made.jobs (job ∷ []) ∙ ap (λ (rs : List Row). rs ++ row ∷ []) made.rows_are ∙ sym (take_more mine i no_row within);
        added = added ∙ ap (λ (xs : List Moved). xs ++ answer ∷ []) made.added ∙ append_assoc before (answers_in made.jobs) (answer ∷ [])
            ∙ ap (λ (xs : List Moved). before ++ xs) (sym (map-append (λ (j : Job). j.answer) made.jobs (job ∷ [])));
        ran = ran_more pool old made.jobs mid job new made.ran called;
      }

-- what is left begins with the next row
pub next_may : (pool : PoolView) (desk : DeskView) (mine : List Row) (i : ℕ) → i < length mine → MayRun pool desk (drop i mine) → MayRun pool desk (get_or mine i no_row ∷ drop (i + 1) mine)
next_may pool desk mine i within may = subst (MayRun pool desk) (drop_more mine i no_row within) may

-- the row of the next number
pub next_is : (rows : List Row) (numbers : List ℕ) (i : ℕ) → i < length numbers → get_or (rows_at rows numbers) i no_row ≡ get_or rows (get_or numbers i 0) no_row
next_is rows numbers i within = get_or-map (λ (n : ℕ). get_or rows n no_row) numbers i 0 no_row within

-- a place that is there, and its seat
pub placed : (rows : List Row) (places : List Place) (worker : ℕ) → worker < length places → (place : Place) × ((d : Place) → get_or places worker d ≡ place) × ((d : Seat) → get_or (seats rows places) worker d ≡ seat_of rows place)
placed rows [] worker within = absurd (omega arith)
placed rows (place ∷ places) zero within = (place, λ d. refl, λ d. refl)
placed rows (place ∷ places) (suc worker) within = placed rows places worker (omega arith)

-- a place has a number for each row of its worker
pub count_numbers : (rows : List Row) (places : List Place) (worker : ℕ) (place : Place) → AreDealt rows (seats rows places) → worker < length places → place ≡ get_or places worker place → length place.jobs.numbers.items ≡ length (of_worker worker rows)
count_numbers rows places worker place dealt here is =
    let found = get_or-map (seat_of rows) places worker place no_seat here ∙ ap (seat_of rows) (sym is) in
    let mine : List Row = rows_at rows place.jobs.numbers.items in
    let its : mine ≡ of_worker worker rows =
    sym (rows_answered mine place.jobs.answers.items) ∙ ap (λ (s : Seat). rows_in s.jobs) (sym found) ∙ dealt worker (omega (arith, here, length-map places (seat_of rows))) in
    omega (arith, ap length its, length-map place.jobs.numbers.items (λ (n : ℕ). get_or rows n no_row))

module _ (rows : List Row) (places : List Place) (i : ℕ) (within : i < length rows) where
  abbrev row_here : Row
  row_here = get_or rows i no_row

  module _ (have : HaveAnswers rows places) (here : row_here.worker < length places) (place : Place) (is : place ≡ get_or places row_here.worker place) (at : ℕ) (at_is : at ≡ length (of_worker row_here.worker (take i rows))) where
    -- the answer of the row's worker that comes next is there
    pub has_answer : at < length place.jobs.answers.items
    has_answer =
        let full : length place.jobs.numbers.items ≤ length place.jobs.answers.items = subst (λ (p : Place). length p.jobs.numbers.items ≤ length p.jobs.answers.items) (sym is) (have.full row_here.worker place here) in
        omega (arith, full, count_numbers rows places row_here.worker place have.dealt here is, at_is, own_within rows i within)

    pub answer_is : (d : Moved) → get_or place.jobs.answers.items at d ≡ answer_of (take i rows) (seats rows places) row_here
    answer_is d =
        let mine : List Row = rows_at rows place.jobs.numbers.items in
        let inside : at < length mine =
        omega (arith, length-map place.jobs.numbers.items (λ (n : ℕ). get_or rows n no_row), count_numbers rows places row_here.worker place have.dealt here is, at_is, own_within rows i within) in
        let found : get_or (seats rows places) row_here.worker no_seat ≡ seat_of rows place = get_or-map (seat_of rows) places row_here.worker place no_seat here ∙ ap (seat_of rows) (sym is) in
        sym (answer_there mine place.jobs.answers.items at d inside has_answer) ∙ ap (λ (s : Seat). (job_at s.jobs at).answer) (sym found) ∙ ap (λ (n : ℕ). (job_at (jobs_of (seats rows places) row_here.worker) n).answer) at_is

-- a place that is dealt to has its worker's rows
pub fresh_dealt : (rows : List Row) (places : List Place) → AreFresh rows places → AreDealt rows (seats rows places)
fresh_dealt rows places fresh worker within =
    let there : worker < length places = omega (arith, within, length-map places (seat_of rows)) in
    let (p, is, seated) = placed rows places worker there in
    let mine : List Row = rows_at rows p.jobs.numbers.items in
    ap (λ (s : Seat). rows_in s.jobs) (seated no_seat) ∙ rows_answered mine p.jobs.answers.items ∙ ap (λ (x : Place). rows_at rows x.jobs.numbers.items) (sym (is p)) ∙ (fresh worker p there).mine_are
