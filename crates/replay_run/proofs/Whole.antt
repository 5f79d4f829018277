-- A segment, from what stands before its first call to its books.
use Rattle.std.proofs.Common.{◌≡◌, ◌+◌, ◌<◌, ◌≤◌, ◌==◌, ℕ, zero, suc, Bool, List, [], ◌∷◌, ◌++◌, length, take, drop, map, get_or, slice_get, Option, Some, None, true, false, cond, nat_lt, refl, sym, ap, ◌∙◌, subst, arith, inl, inr, append_assoc, if◌then◌else◌, take-append-drop}
use Rattle.std.proofs.lemmas.Bool.Decides.{nat_tests}
use Rattle.std.proofs.lemmas.List.{length-map, get_or-map, get_or_default, drop_more, same_lists}
use Rattle.std.proofs.lemmas.List.Elements.{All-head, All-tail, All-same, All-filter, filter-append, filter_passes}
use Rattle.std.proofs.lemmas.List.Sums.{sum_by-cons}
use Rattle.std.proofs.lemmas.Option.{none-some, same_Some, slice_get_cases, slice_get_within, slice_get-map, slice_get-get_or, get_or_from_slice_get}
use Rattle.std.specs.List.{All}
use Rattle.std.specs.Option.{option_map}
use mathlib.Core.List.{IsPrefix}
use Rattle.running.specs.Running.{numbers_from, upto}
use Rattle.fn_model.specs.declared.Call.{Call}
use Rattle.fn_model.specs.Calls.{own}
use Rattle.fn_model.specs.Integer.{Meets}
use Rattle.fn_core.specs.declared.Start.{Start}
use Rattle.fn_core.specs.Calls.{CoreLog, calls_in, IsLegal}
use Rattle.fn_core.proofs.Public.{histories_go_on, entries_stay}
use Rattle.fn_table.specs.Seen.{TableView, PassView, IsClosed, fresh}
use Rattle.fn_table.specs.Called.{call_of as next_call}
use Rattle.fn_table.specs.Claims.{past}
use Rattle.fn_layout.specs.Workers.{IsShapeFor}
use Rattle.fn_funnel.specs.declared.waiting.Way.{Way}
use Rattle.fn_funnel.proofs.Calls.{entered_stays}
use Rattle.quota_pool.specs.Calls.{EntersBy}
use Rattle.running.proofs.Lists.{length_numbers}
use Rattle.running.proofs.Logs.{prefix_on}
use Rattle.quota_pool.specs.Views.{PoolView, DeskView, Belongs, left_at, left_in}
use Rattle.quota_pool.specs.Opened.{fresh_desk, OpensWith, IsNew}
use Rattle.quota_pool.specs.Claims.{HasCallsOf, TellsBook, TellsBooks}
use Rattle.quota_pool.specs.Closed.{passes_at, AreClosed}
use Rattle.quota_pool.specs.declared.moved.Moved.{Moved}
use Rattle.quota_pool.proofs.Laws.{seen_in_book}
use Rattle.trace_text.specs.SoundTrace.{IsSoundRow, amounts}
use Rattle.trace_text.specs.declared.traces.Row.{Row}
use Rattle.replay_run.specs.Segments.{kind_of, rows_of, call_of, call_after, calls_from}
use Rattle.replay_run.specs.Replay.{IsBook, IsAnswered}
use Rattle.replay_run.specs.Ready.{IsSoundSegment, IsReady}
use Rattle.replay_run.specs.Work.{Job, Seat, rows_in, of_worker, MayRun, MayWork, Ran, Worked, desks_in, jobs_of, AreDealt, job_at, gathered_from, gathered}
use Rattle.replay_run.proofs.Behind.{meets_later}
use Rattle.replay_run.proofs.Counts.{no_seat, answer_of}
use Rattle.replay_run.proofs.NoFault.{none_from, workers_there, tenants_there}
use Rattle.replay_run.proofs.Numbered.{rows_own}
use Rattle.replay_run.proofs.RanAt.{Reached, RanAt, came}
use Rattle.replay_run.proofs.Runs.{asks}

-- a number among so many
number_at : (from n k : ℕ) → k < n → (d : ℕ) → get_or (numbers_from from n) k d ≡ from + k
number_at from zero k below d = absurd (omega arith)
number_at from (suc n) zero below d = omega arith
number_at from (suc n) (suc k) below d = let e = number_at (suc from) n k (omega arith) d in omega (arith, e)

-- rows of other tenants ask for nothing
none_asked : (tenants tenant : ℕ) (rows : List Row) → All (λ (row : Row). row.tenant < tenants) rows → tenants ≤ tenant → amounts tenant rows ≡ 0
none_asked tenants tenant [] all above = refl
none_asked tenants tenant (row ∷ rows) all above =
    let first : row.tenant < tenants = All-head (λ (r : Row). r.tenant < tenants) row rows all in
    let other : (row.tenant == tenant) ≡ false = grind (arith, nat_tests, first, above) in
    let nothing : asks tenant row ≡ 0 = ap (λ (b : Bool). if b then row.amount else 0) other in
    omega (arith, sum_by-cons (asks tenant) row rows, nothing, none_asked tenants tenant rows (All-tail (λ (r : Row). r.tenant < tenants) row rows all) above)

-- what holds of a worker's rows holds of its jobs
jobs_all : (P : Row → Type 0) (jobs : List Job) → All P (rows_in jobs) → All (λ (job : Job). P job.row) jobs
jobs_all P jobs all = λ k d within. subst P (get_or-map (λ (job : Job). job.row) jobs k d d.row within) (all k d.row (omega (arith, within, length-map jobs (λ (job : Job). job.row))))

-- a row among its worker's, with those before it
module _ (rows : List Row) (k : ℕ) (row : Row) (at : slice_get rows k ≡ Some row) where
  abbrev mine : Row → Bool
  mine r = r.worker == row.worker

  split : rows ≡ take k rows ++ row ∷ drop (k + 1) rows
  split =
      let within : k < length rows = slice_get_within rows k row at in
      sym (take-append-drop k rows) ∙ ap (λ (rs : List Row). take k rows ++ rs) (drop_more rows k row within ∙ ap (λ (r : Row). r ∷ drop (k + 1) rows) (get_or_from_slice_get rows k row row at))

  pub own_split : of_worker row.worker rows ≡ of_worker row.worker (take k rows) ++ row ∷ of_worker row.worker (drop (k + 1) rows)
  own_split =
      ap (of_worker row.worker) split ∙ filter-append mine (take k rows) (row ∷ drop (k + 1) rows)
      ∙ ap (λ (b : Bool). of_worker row.worker (take k rows) ++ cond b (row ∷ of_worker row.worker (drop (k + 1) rows)) (of_worker row.worker (drop (k + 1) rows))) (same_test row.worker)
    where
      same_test : (n : ℕ) → (n == n) ≡ true
      same_test n = grind (arith, nat_tests)

found_behind : {A : Type 0} (xs : List A) (x : A) (ys : List A) → slice_get (xs ++ x ∷ ys) (length xs) ≡ Some x
found_behind [] x ys = refl
found_behind (z ∷ xs) x ys = found_behind xs x ys

taken_before : {A : Type 0} (xs : List A) (ys : List A) → take (length xs) (xs ++ ys) ≡ xs
taken_before [] ys = refl
taken_before (z ∷ xs) ys = ap (λ zs. z ∷ zs) (taken_before xs ys)

-- the answer that was gathered for a row
gathered_at : (earlier : List Row) (places : List Seat) (rows : List Row) (k : ℕ) (row : Row) → slice_get rows k ≡ Some row → slice_get (gathered_from earlier places rows) k ≡ Some (answer_of (earlier ++ take k rows) places row)
gathered_at earlier places [] k row none = absurd (none-some row none)
gathered_at earlier places (first ∷ rows) zero row is =
    ap (λ (r : Row). Some (answer_of earlier places r)) (same_Some first row is) ∙ ap (λ (e : List Row). Some (answer_of e places row)) (sym (nothing earlier))
  where
    nothing : (xs : List Row) → xs ++ [] ≡ xs
    nothing [] = refl
    nothing (x ∷ xs) = ap (λ ys. x ∷ ys) (nothing xs)
gathered_at earlier places (first ∷ rows) (suc k) row is =
    gathered_at (earlier ++ first ∷ []) places rows k row is ∙ ap (λ (e : List Row). Some (answer_of e places row)) (append_assoc earlier (first ∷ []) (take k rows))

-- a desk that made calls is still one of the pool, of the same worker
pub still_one : (pool : PoolView) (old : DeskView) (jobs : List Job) (new : DeskView) → Ran pool old jobs new → Belongs pool old → Belongs pool new × (new.worker ≡ old.worker)
still_one pool old [] new is belongs = (subst (Belongs pool) (sym is) belongs, ap (λ (d : DeskView). d.worker) is)
still_one pool old (job ∷ jobs) new (next, called, rest) belongs = let later = still_one pool next jobs new rest called.made.together in (later.0, later.1 ∙ ap (λ (d : DeskView). d.worker) called.made.desk)

-- a call stays entered as its way has it, while the log goes on
enters_later : (way : Option Way) (old new : CoreLog) → IsLegal new → new.start ≡ old.start → IsPrefix old.log new.log → (call : Call) → EntersBy way old call → EntersBy way new call
enters_later (Some way) old new legal same begins call = entered_stays way old new legal same begins call
enters_later None old new legal same begins call = (entries_stay old new legal same begins call).0

module _ (workers : ℕ) (caps openings : List ℕ) (rows : List Row) (pool : PoolView) (places : List Seat) (sound : IsSoundSegment workers caps openings rows) (ready : IsReady workers caps openings rows pool places) where
  pub count_places : length places ≡ workers
  count_places =
      sym (length-map places (λ (p : Seat). p.desk)) ∙ ap length ready.opened.fresh ∙ length-map (upto workers) (fresh_desk pool.tables) ∙ length_numbers 0 workers

  tables_count : length pool.tables ≡ length caps
  tables_count = ready.opened.tenants ∙ sound.one_each

  desk_at : (worker : ℕ) → worker < workers → (get_or places worker no_seat).desk ≡ fresh_desk pool.tables worker
  desk_at worker below =
      let d : DeskView = fresh_desk pool.tables 0 in
      let within : worker < length places = omega (arith, below, count_places) in
      sym (get_or-map (λ (p : Seat). p.desk) places worker no_seat d within) ∙ ap (λ (ds : List DeskView). get_or ds worker d) ready.opened.fresh
      ∙ get_or-map (fresh_desk pool.tables) (upto workers) worker 0 d (omega (arith, below, length_numbers 0 workers)) ∙ ap (fresh_desk pool.tables) (let e = number_at 0 workers worker below 0 in omega (arith, e))

  -- a worker's pass of a table has made no step of its own
  new_pass : (worker : ℕ) → worker < workers → (tenant : ℕ) (table : TableView) → slice_get pool.tables tenant ≡ Some table → (slice_get (fresh_desk pool.tables worker).passes tenant ≡ Some (fresh table worker)) × IsNew (fresh table worker)
  new_pass worker below tenant table at =
      let found : slice_get (fresh_desk pool.tables worker).passes tenant ≡ Some (fresh table worker) =
      slice_get-map (λ (t : TableView). fresh t worker) pool.tables tenant ∙ ap (λ (o : Option TableView). option_map (λ (t : TableView). fresh t worker) o) at in
      let within : worker < length places = omega (arith, below, count_places) in
      let desks : worker < length (desks_in places) = omega (arith, within, length-map places (λ (p : Seat). p.desk)) in
      let d : DeskView = fresh_desk pool.tables 0 in
      let all : All IsNew (get_or (desks_in places) worker d).passes = ready.opened.new worker d desks in
      let is : get_or (desks_in places) worker d ≡ fresh_desk pool.tables worker = get_or-map (λ (p : Seat). p.desk) places worker no_seat d within ∙ desk_at worker below in
      let new : All IsNew (fresh_desk pool.tables worker).passes = subst (λ (x : DeskView). All IsNew x.passes) is all in
      let p : PassView = fresh table worker in
      let inside = slice_get_within (fresh_desk pool.tables worker).passes tenant p found in
      (found, subst IsNew (get_or_from_slice_get (fresh_desk pool.tables worker).passes tenant p p found) (new tenant p inside))

  opens_with : (tenant : ℕ) (table : TableView) → slice_get pool.tables tenant ≡ Some table → OpensWith workers (get_or openings tenant 0) (get_or caps tenant 0) (get_or ready.plans tenant []) table
  opens_with tenant table at = ready.opened.each tenant table at

  -- a desk has enough left for its worker's rows
  enough : (worker : ℕ) → worker < workers → (tenant : ℕ) → amounts tenant (of_worker worker rows) ≤ left_at (fresh_desk pool.tables worker) tenant
  enough worker below tenant = elim ((slice_get_cases pool.tables tenant).1) [
    | inl (table, within, at, got) ↦
        let there : tenant < length caps = omega (arith, within, tables_count) in
        let new = new_pass worker below tenant table at in
        let left : left_at (fresh_desk pool.tables worker) tenant ≡ get_or table.start.allowances worker 0 = ap left_in new.0 ∙ new.1.1 in
        let plan : get_or table.start.allowances worker 0 ≡ amounts tenant (of_worker worker rows) = ap (λ (ns : List ℕ). get_or ns worker 0) (opens_with tenant table at).has_plan ∙ ready.planned.sums tenant there worker below in
        omega (arith, left, plan)
    | inr past ↦
        let above : length caps ≤ tenant = omega (arith, past.0, tables_count) in
        let mine : All (λ (row : Row). row.tenant < length caps) (of_worker worker rows) = All-filter (λ (row : Row). row.worker == worker) (λ (row : Row). row.tenant < length caps) rows (tenants_there workers (length caps) rows sound.sound) in
        omega (arith, none_asked (length caps) tenant (of_worker worker rows) mine above)
  ]

  pub may_work : All (MayWork pool) places
  may_work = λ worker d within.
      let below : worker < workers = omega (arith, within, count_places) in
      let is : get_or places worker no_seat ≡ get_or places worker d = get_or_default places worker no_seat d within in
      let desk = desk_at worker below in
      let mine : rows_in (jobs_of places worker) ≡ of_worker worker rows = ready.dealt worker within in
      let desks : worker < length (desks_in places) = omega (arith, within, length-map places (λ (p : Seat). p.desk)) in
      let first : DeskView = fresh_desk pool.tables 0 in
      let together : Belongs pool (get_or places worker no_seat).desk = subst (Belongs pool) (get_or-map (λ (p : Seat). p.desk) places worker no_seat first within) (ready.opened.together worker first desks) in
      let SoundHere : ℕ → ℕ → Type 0 = λ ws ts. All (IsSoundRow ws ts) (of_worker worker rows) in
      let here : SoundHere workers (length caps) = All-filter (λ (row : Row). row.worker == worker) (IsSoundRow workers (length caps)) rows sound.sound in
      let there : SoundHere pool.workers (length pool.tables) = subst (λ (n : ℕ). SoundHere pool.workers n) (sym tables_count) (subst (λ (n : ℕ). SoundHere n (length caps)) (sym ready.opened.count) here) in
      let may : MayRun pool (get_or places worker no_seat).desk (of_worker worker rows) = record {
        together = together;
        sound = there;
        left = λ tenant. subst (λ (x : DeskView). amounts tenant (of_worker worker rows) ≤ left_at x tenant) (sym desk) (enough worker below tenant);
      } in
      subst (MayWork pool) is (subst (MayRun pool (get_or places worker no_seat).desk) (sym mine) may)

  -- after all workers have made their calls
  module _ (done : List Seat) (size : length done ≡ length places) (worked : (worker : ℕ) (d : Seat) → worker < length places → Worked pool (get_or places worker d) (get_or done worker d)) where
    pub still_dealt : AreDealt rows done
    still_dealt worker within =
        let inside : worker < length places = omega (arith, within, size) in
        (worked worker no_seat inside).rows ∙ ready.dealt worker inside

    belongs_before : (worker : ℕ) → worker < length places → Belongs pool (get_or places worker no_seat).desk
    belongs_before worker within =
        let first : DeskView = fresh_desk pool.tables 0 in
        subst (Belongs pool) (get_or-map (λ (p : Seat). p.desk) places worker no_seat first within) (ready.opened.together worker first (omega (arith, within, length-map places (λ (p : Seat). p.desk))))

    one_of : (worker : ℕ) → worker < length places → Belongs pool (get_or done worker no_seat).desk × ((get_or done worker no_seat).desk.worker ≡ (get_or places worker no_seat).desk.worker)
    one_of worker within =
        let was = worked worker no_seat within in
        still_one pool (get_or places worker no_seat).desk (get_or done worker no_seat).jobs (get_or done worker no_seat).desk was.ran (belongs_before worker within)

    pub still_together : All (Belongs pool) (desks_in done)
    still_together = λ worker d within.
        let inside : worker < length done = omega (arith, within, length-map done (λ (p : Seat). p.desk)) in
        subst (Belongs pool) (sym (get_or-map (λ (p : Seat). p.desk) done worker no_seat d inside)) (one_of worker (omega (arith, inside, size))).0

    pub still_all : map (λ (d : DeskView). d.worker) (desks_in done) ≡ upto pool.workers
    still_all =
        let long : length (map (λ (d : DeskView). d.worker) (desks_in done)) ≡ length places = length-map (desks_in done) (λ (d : DeskView). d.worker) ∙ length-map done (λ (p : Seat). p.desk) ∙ size in
        let count : length (upto workers) ≡ workers = length_numbers 0 workers in
        let same : map (λ (d : DeskView). d.worker) (desks_in done) ≡ upto workers =
        same_lists (map (λ (d : DeskView). d.worker) (desks_in done)) (upto workers) (omega (arith, long, count, count_places)) (λ k d within.
        let inside : k < length places = omega (arith, within, long) in
        let below : k < workers = omega (arith, inside, count_places) in
        let first : DeskView = fresh_desk pool.tables 0 in
        get_or-map (λ (x : DeskView). x.worker) (desks_in done) k first d (omega (arith, inside, size, length-map done (λ (p : Seat). p.desk)))
        ∙ ap (λ (x : DeskView). x.worker) (get_or-map (λ (p : Seat). p.desk) done k no_seat first (omega (arith, inside, size)))
        ∙ (one_of k inside).1 ∙ ap (λ (x : DeskView). x.worker) (desk_at k below) ∙ (let e = number_at 0 workers k below d in omega (arith, e))) in
        same ∙ ap upto (sym ready.opened.count)

    -- a worker's pass of a table, as it is in the end
    pub came_to : (worker : ℕ) → worker < workers → (tenant : ℕ) (table : TableView) → slice_get pool.tables tenant ≡ Some table
        → (q : PassView) × (slice_get (get_or done worker no_seat).desk.passes tenant ≡ Some q) × RanAt worker tenant (fresh table worker) q [] (jobs_of done worker)
    came_to worker below tenant table at =
        let within : worker < length places = omega (arith, below, count_places) in
        let was = worked worker no_seat within in
        let new = new_pass worker below tenant table at in
        let found : slice_get (get_or places worker no_seat).desk.passes tenant ≡ Some (fresh table worker) = ap (λ (x : DeskView). slice_get x.passes tenant) (desk_at worker below) ∙ new.0 in
        let mine : rows_in (jobs_of done worker) ≡ of_worker worker rows = still_dealt worker (omega (arith, within, size)) in
        let tested : All (λ (row : Row). row.worker ≡ worker) (of_worker worker rows) = λ k d inside. (let test : ((get_or (of_worker worker rows) k d).worker == worker) ≡ true = filter_passes (λ (row : Row). row.worker == worker) rows k d inside in grind (arith, nat_tests, test)) in
        let all : All (λ (job : Job). job.row.worker ≡ worker) (jobs_of done worker) = jobs_all (λ (row : Row). row.worker ≡ worker) (jobs_of done worker) (All-same (λ (row : Row). row.worker ≡ worker) (rows_in (jobs_of done worker)) (of_worker worker rows) mine tested) in
        came pool worker tenant (get_or places worker no_seat).desk (jobs_of done worker) (get_or done worker no_seat).desk (fresh table worker) [] was.ran all found refl (ap (own worker) new.1.2)

    module _ (books : List CoreLog) (told : TellsBooks pool (desks_in done) books) (closed : AreClosed (desks_in done) books) (tenant : ℕ) (table : TableView) (book : CoreLog) (at : slice_get pool.tables tenant ≡ Some table) (there : slice_get books tenant ≡ Some book) where
      abbrev tells : TellsBook tenant table (desks_in done) book
      tells = told.each tenant table book at there

      abbrev joins : IsClosed (passes_at tenant (desks_in done)) book
      joins = closed tenant book there

      desk_there : (worker : ℕ) → worker < workers → slice_get (desks_in done) worker ≡ Some (get_or done worker no_seat).desk
      desk_there worker below =
          let within : worker < length done = omega (arith, below, count_places, size) in
          slice_get-map (λ (p : Seat). p.desk) done worker ∙ ap (λ (o : Option Seat). option_map (λ (p : Seat). p.desk) o) (slice_get-get_or done worker no_seat within)

      opened_so : OpensWith workers (get_or openings tenant 0) (get_or caps tenant 0) (get_or ready.plans tenant []) table
      opened_so = opens_with tenant table at

      -- a worker's own calls in the book are its rows
      own_rows : (worker : ℕ) → worker < workers → own worker (calls_in book) ≡ calls_from 0 (rows_of worker tenant rows)
      own_rows worker below =
          let last = came_to worker below tenant table at in
          let q : PassView = last.0 in
          let number : q.number ≡ worker = last.2.number in
          let has : HasCallsOf q book = tells.each worker (get_or done worker no_seat).desk q (desk_there worker below) last.1 in
          let same : own worker (calls_in book) ≡ own worker (past q) = subst (λ (w : ℕ). own w (calls_in book) ≡ own w (past q)) number has.calls in
          let mine : rows_in (jobs_of done worker) ≡ of_worker worker rows = still_dealt worker (omega (arith, below, count_places, size)) in
          same ∙ last.2.calls ∙ ap (λ (rs : List Row). calls_from 0 (rows_of worker tenant rs)) mine ∙ ap (calls_from 0) (rows_own worker tenant rows)

      no_rows : (worker : ℕ) → workers ≤ worker → own worker (calls_in book) ≡ calls_from 0 (rows_of worker tenant rows)
      no_rows worker above =
          let none : own worker (calls_in book) ≡ [] = tells.no_other worker (omega (arith, above, count_places, size, length-map done (λ (p : Seat). p.desk))) in
          let empty : of_worker worker rows ≡ [] = none_from workers rows (workers_there workers (length caps) rows sound.sound) worker above in
          none ∙ sym (ap (calls_from 0) (sym (rows_own worker tenant rows) ∙ ap (rows_of worker tenant) empty))

      all_rows : (worker : ℕ) → own worker (calls_in book) ≡ calls_from 0 (rows_of worker tenant rows)
      all_rows worker = by (nat_lt worker workers) refl
        where
          by : (b : Bool) → nat_lt worker workers ≡ b → own worker (calls_in book) ≡ calls_from 0 (rows_of worker tenant rows)
          by true is = own_rows worker (grind (arith, nat_tests, is))
          by false is = no_rows worker (grind (arith, nat_tests, is))

      pub is_book : IsBook workers (get_or caps tenant 0) (get_or openings tenant 0) tenant rows book
      is_book = record {
        legal = joins.legal;
        has_shape = subst (λ (s : Start). IsShapeFor workers s.shape) (sym tells.start) opened_so.has_shape;
        has_cap = ap (λ (s : Start). s.cap) tells.start ∙ opened_so.has_cap;
        has_opening = ap (λ (s : Start). s.opening) tells.start ∙ opened_so.has_opening;
        calls = all_rows;
      }

      -- the answer of a row
      pub is_answered : (k : ℕ) (row : Row) (answer : Moved) → slice_get rows k ≡ Some row → slice_get (gathered rows done) k ≡ Some answer → row.tenant ≡ tenant → IsAnswered (take k rows) row answer book
      is_answered k row answer here got on =
          let worker = row.worker in
          let inside : k < length rows = slice_get_within rows k row here in
          let row_is : get_or rows k row ≡ row = get_or_from_slice_get rows k row row here in
          let below : worker < workers = subst (λ (r : Row). r.worker < workers) row_is (workers_there workers (length caps) rows sound.sound k row inside) in
          let last = came_to worker below tenant table at in
          let q : PassView = last.0 in
          let jobs : List Job = jobs_of done worker in
          let before : List Row = of_worker worker (take k rows) in
          let dealt : rows_in jobs ≡ before ++ row ∷ of_worker worker (drop (k + 1) rows) = still_dealt worker (omega (arith, below, count_places, size)) ∙ own_split rows k row here in
          let n = length before in
          let found : slice_get (rows_in jobs) n ≡ Some row = ap (λ (rs : List Row). slice_get rs n) dealt ∙ found_behind before row (of_worker worker (drop (k + 1) rows)) in
          let within : n < length jobs = omega (arith, slice_get_within (rows_in jobs) n row found, length-map jobs (λ (j : Job). j.row)) in
          let none : Job = job_at [] n in
          let job : Job = job_at jobs n in
          let job_there : slice_get jobs n ≡ Some job = slice_get-get_or jobs n none within in
          let job_row : job.row ≡ row = same_Some job.row row (sym (slice_get-map (λ (j : Job). j.row) jobs n ∙ ap (λ (o : Option Job). option_map (λ (j : Job). j.row) o) job_there) ∙ found) in
          let answer_is : job.answer ≡ answer = same_Some job.answer answer (sym (gathered_at [] done rows k row here) ∙ got) in
          let reached : Reached q (take n (rows_in jobs)) job.row job.answer = last.2.each n job job_there (ap (λ (r : Row). r.tenant) job_row ∙ on) in
          let taken : take n (rows_in jobs) ≡ before = ap (take n) dealt ∙ taken_before before (row ∷ of_worker worker (drop (k + 1) rows)) in
          let reached_so : Reached q before row answer =
          subst (λ (rs : List Row). Reached q rs row answer) taken (subst (λ (r : Row). Reached q (take n (rows_in jobs)) r answer) job_row (subst (λ (a : Moved). Reached q (take n (rows_in jobs)) job.row a) answer_is reached)) in
          in_book worker below q last.1 last.2.start k row answer reached_so
        where
          in_book : (worker : ℕ) → worker < workers → (q : PassView) → slice_get (get_or done worker no_seat).desk.passes tenant ≡ Some q → q.seen.start ≡ table.start → (k : ℕ) (row : Row) (answer : Moved)
              → Reached q (of_worker row.worker (take k rows)) row answer → IsAnswered (take k rows) row answer book
          in_book worker below q found start k row answer reached =
              let whole : IsPrefix q.seen.log book.log = seen_in_book pool (desks_in done) still_together tenant table at worker (get_or done worker no_seat).desk q (desk_there worker below) found book joins in
              let seen = prefix_on reached.after.seen.log q.seen.log book.log reached.seen whole in
              let begins : reached.after.seen.start ≡ book.start = reached.start ∙ start ∙ sym tells.start in
              let call : Call = next_call reached.pass (kind_of row.op) row.amount in
              let same : call ≡ call_after (take k rows) row = reached.same ∙ ap (λ (n : ℕ). call_of n row) (ap length (rows_own row.worker row.tenant (take k rows))) in
              let further : IsPrefix (past reached.after) (calls_in book) = histories_go_on reached.after.seen book joins.legal (sym begins) seen in
              let met : Meets book.start.cap book.start.opening (past reached.after) call answer.before = subst (λ (s : Start). Meets s.cap s.opening (past reached.after) call answer.before) begins reached.called.called.met in
              record {
                pass = reached.pass;
                after = reached.after;
                worker = reached.worker;
                start = begins;
                seen = seen;
                called = reached.called;
                same = same;
                met = subst (λ (c : Call). Meets book.start.cap book.start.opening (calls_in book) c answer.before) same (meets_later book.start.cap book.start.opening (past reached.after) (calls_in book) further call answer.before met);
                entered = subst (λ (c : Call). EntersBy answer.way book c) same (enters_later answer.way reached.after.seen book joins.legal (sym begins) seen call reached.called.entered);
              }
