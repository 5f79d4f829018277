-- One worker makes all calls, and its answers are those of the segment.
use Rattle.std.proofs.Common.{◌≡◌, ◌<◌, ◌++◌, ◌==◌, ◌∷◌, ℕ, zero, suc, List, [], Bool, true, cond, length, set, get_or, refl, sym, ap, ◌∙◌, subst, arith, All, append_assoc, eq-eqb}
use Rattle.std.proofs.lemmas.List.{length-map, map-append, get_or_at}
use Rattle.std.proofs.lemmas.List.Elements.{All-head, All-tail, All-push}
use Rattle.quota_pool.specs.Views.{PoolView, DeskView}
use Rattle.quota_pool.specs.declared.moved.Moved.{Moved}
use Rattle.trace_text.specs.declared.traces.Row.{Row}
use Rattle.replay_run.specs.declared.places.Place.{Place}
use Rattle.replay_run.specs.Work.{Job, Seat, no_row, rows_at, rows_in, answers_in, of_worker, AreFresh, IsFresh, MayRun, MayWork, HasMade, Worked, AreMade, job_at, jobs_of, gathered, gathered_from, seat_of, seats}
use Rattle.replay_run.proofs.Seated.{rows_answered}

abbrev IsFirst : Row → Type 0
IsFirst row = row.worker ≡ 0

-- where each row is of the first worker, all are its own
all_own : (rows : List Row) → All IsFirst rows → of_worker 0 rows ≡ rows
all_own [] all = refl
all_own (row ∷ rows) all =
    let test : (row.worker == 0) ≡ true = eq-eqb row.worker 0 (All-head IsFirst row rows all) in
    ap (λ (b : Bool). cond b (row ∷ of_worker 0 rows) (of_worker 0 rows)) test ∙ ap (λ (rs : List Row). row ∷ rs) (all_own rows (All-tail IsFirst row rows all))

-- its answers are in order of the rows
in_order : (desk : DeskView) (earlier jobs : List Job) → All IsFirst (rows_in earlier) → All IsFirst (rows_in jobs) → gathered_from (rows_in earlier) (record { desk = desk; jobs = earlier ++ jobs } ∷ []) (rows_in jobs) ≡ answers_in jobs
in_order desk earlier [] past all = refl
in_order desk earlier (job ∷ jobs) past all =
    let first : job.row.worker ≡ 0 = All-head IsFirst job.row (rows_in jobs) all in
    let others = All-tail IsFirst job.row (rows_in jobs) all in
    let seat : Seat = record { desk = desk; jobs = earlier ++ job ∷ jobs } in
    let none : Job = job_at [] 0 in
    let place : length earlier ≡ length (of_worker 0 (rows_in earlier)) = sym (ap length (all_own (rows_in earlier) past) ∙ length-map earlier (λ (j : Job). j.row)) in
    let head : (job_at (jobs_of (seat ∷ []) job.row.worker) (length (of_worker job.row.worker (rows_in earlier)))).answer ≡ job.answer =
    ap (λ (w : ℕ). (job_at (jobs_of (seat ∷ []) w) (length (of_worker w (rows_in earlier)))).answer) first ∙ ap (λ (j : Job). j.answer) (get_or_at earlier job jobs none (length (of_worker 0 (rows_in earlier))) place) in
    let so_far : rows_in (earlier ++ job ∷ []) ≡ rows_in earlier ++ job.row ∷ [] = map-append (λ (j : Job). j.row) earlier (job ∷ []) in
    let past_all : All IsFirst (rows_in (earlier ++ job ∷ [])) = subst (λ (rs : List Row). All IsFirst rs) (sym so_far) (All-push IsFirst (rows_in earlier) job.row past first) in
    let tail : gathered_from (rows_in earlier ++ job.row ∷ []) (seat ∷ []) (rows_in jobs) ≡ answers_in jobs =
    ap (λ (rs : List Row). gathered_from rs (seat ∷ []) (rows_in jobs)) (sym so_far)
    ∙ ap (λ (js : List Job). gathered_from (rows_in (earlier ++ job ∷ [])) (record { desk = desk; jobs = js } ∷ []) (rows_in jobs)) (sym (append_assoc earlier (job ∷ []) jobs))
    ∙ in_order desk (earlier ++ job ∷ []) jobs past_all others in
    ap (λ (a : Moved). a ∷ gathered_from (rows_in earlier ++ job.row ∷ []) (seat ∷ []) (rows_in jobs)) head ∙ ap (λ (xs : List Moved). job.answer ∷ xs) tail

module _ (pool : PoolView) (rows : List Row) (before : List Place) (one : length before ≡ 1) (workers : All (λ (row : Row). row.worker < length before) rows) (fresh : AreFresh rows before) (may : All (MayWork pool) (seats rows before))
    (place : Place) (is : place ≡ get_or before 0 place) where
  its : IsFresh rows (of_worker 0 rows) place.jobs
  its = subst (λ (p : Place). IsFresh rows (of_worker 0 rows) p.jobs) (sym is) (fresh 0 place (omega (arith, one)))

  first_all : All IsFirst rows
  first_all = λ k d within. omega (arith, workers k d within, one)

  mine_all : rows_at rows place.jobs.numbers.items ≡ rows
  mine_all = its.mine_are ∙ all_own rows first_all

  pub may_alone : MayRun pool place.desk (rows_at rows place.jobs.numbers.items)
  may_alone = from before one is may
    where
      from : (places : List Place) → length places ≡ 1 → place ≡ get_or places 0 place → All (MayWork pool) (seats rows places) → MayRun pool place.desk (rows_at rows place.jobs.numbers.items)
      from [] n same all = absurd (omega arith)
      from (p ∷ ps) n same all =
          let work : MayWork pool (seat_of rows place) = subst (λ (x : Place). MayWork pool (seat_of rows x)) (sym same) (All-head (MayWork pool) (seat_of rows p) (seats rows ps) all) in
          subst (MayRun pool place.desk) (rows_answered (rows_at rows place.jobs.numbers.items) place.jobs.answers.items) work

  pub within_alone : All (λ (n : ℕ). n < length rows) place.jobs.numbers.items
  within_alone = its.within

  pub count_alone : length place.jobs.numbers.items ≡ length rows
  count_alone = sym (length-map place.jobs.numbers.items (λ (n : ℕ). get_or rows n no_row)) ∙ ap length mine_all

  pub made_alone : (left : Place) (old new : List Moved) → HasMade pool place.desk (rows_at rows place.jobs.numbers.items) old new left.desk → AreMade pool rows before old (set before 0 left) new
  made_alone left old new made = from before one is
    where
      seat : Seat
      seat = record { desk = left.desk; jobs = made.jobs }

      rows_are : rows_in made.jobs ≡ rows
      rows_are = made.rows_are ∙ mine_all

      answers : gathered rows (seat ∷ []) ≡ answers_in made.jobs
      answers =
          ap (λ (rs : List Row). gathered rs (seat ∷ [])) (sym rows_are)
          ∙ in_order left.desk [] made.jobs (λ k d within. absurd (omega arith)) (subst (λ (rs : List Row). All IsFirst rs) (sym rows_are) first_all)

      worked : Worked pool (seat_of rows place) seat
      worked = record { rows = made.rows_are ∙ sym (rows_answered (rows_at rows place.jobs.numbers.items) place.jobs.answers.items); ran = made.ran }

      from : (places : List Place) → length places ≡ 1 → place ≡ get_or places 0 place → AreMade pool rows places old (set places 0 left) new
      from [] n same = absurd (omega arith)
      from (p ∷ q ∷ ps) n same = absurd (omega arith)
      from (p ∷ []) n same = record {
        done = seat ∷ [];
        count = refl;
        desks = refl;
        worked = by;
        added = made.added ∙ ap (λ (xs : List Moved). old ++ xs) (sym answers);
      }
        where
          by : (worker : ℕ) (d : Seat) → worker < 1 → Worked pool (get_or (seat_of rows p ∷ []) worker d) (get_or (seat ∷ []) worker d)
          by zero d within = subst (λ (x : Place). Worked pool (seat_of rows x) seat) same worked
          by (suc worker) d within = absurd (omega arith)
