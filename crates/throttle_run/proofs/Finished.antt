-- What the workers of a bucket have left, in its book.
use Rattle.std.proofs.Common.{◌≡◌, ◌+◌, ◌/◌, ◌<◌, ℕ, zero, suc, List, [], ◌∷◌, ◌++◌, Some, length, map, get_or, slice_get, refl, sym, ap, ◌∙◌, subst, arith}
use Rattle.std.proofs.lemmas.List.{length-map, get_or-map}
use Rattle.std.proofs.lemmas.Option.{slice_get-map, get_or_from_slice_get}
use Rattle.std.specs.List.{All}
use Rattle.std.specs.Option.{option_map}
use Rattle.running.specs.Running.{numbers_from, upto}
use Rattle.fn_model.specs.declared.Call.{Call}
use Rattle.fn_model.specs.Calls.{own}
use Rattle.fn_table.specs.Claims.{mine}
use Rattle.tick_table.specs.declared.entry.Entry.{Entry}
use Rattle.tick_table.specs.declared.entry.Start.{Start}
use Rattle.tick_table.specs.Seen.{entries_of, entry}
use Rattle.quota_bucket.specs.declared.desks.Taken.{Taken}
use Rattle.quota_bucket.specs.Seen.{BucketView, DeskView, Belongs, AreAll, burst}
use Rattle.quota_bucket.specs.Closed.{BucketLog, IsClosed, HasAll, history}
use Rattle.throttle_run.specs.declared.lines.ThrottleLine.{ThrottleLine}
use Rattle.throttle_run.specs.declared.throttling.Setting.{Setting}
use Rattle.throttle_run.specs.declared.workers.Worker.{Worker}
use Rattle.throttle_run.specs.Throttled.{lines_of, answers_of, calls_from, AreMet, claims_of, IsServed, IsThrottled}
use Rattle.throttle_run.specs.Work.{lines_in, tolds, bare, desks_in, jobs_of, Each, IsDone, OpensFull}
use Rattle.throttle_run.proofs.Served.{Told, told_by, claims_stay}

-- the element at a place that is there
found_at : {A : Type 0} (xs : List A) (k : ℕ) → k < length xs → (x : A) × (slice_get xs k ≡ Some x)
found_at [] k below = absurd (omega arith)
found_at (x ∷ xs) zero below = (x, refl)
found_at (x ∷ xs) (suc k) below = found_at xs k (omega (arith, below))

module _ (s : Setting) (b : BucketView) (opens : OpensFull s b) (lines : List ThrottleLine) (all : List Worker) (count : length all ≡ s.workers) (done : Each (IsDone b lines) all) where
  full : b.funnel.start.opening ≡ burst b
  full = opens.opening ∙ sym opens.cap

  -- what the worker of a number has done
  told_at : (w : ℕ) (d : Worker) → w < length all → (one : IsDone b lines w (get_or all w d)) × Told b w one.first (get_or all w d).jobs (get_or all w d).desk
  told_at w d below =
      let one = done w d below in
      (one, told_by b full w one.first (get_or all w d).jobs (get_or all w d).desk one.number one.new.together one.ran)

  desk_at : (w : ℕ) (d : DeskView) → w < length all → get_or (desks_in all) w d ≡ (get_or all w (bare d)).desk
  desk_at w d below = get_or-map (λ (x : Worker). x.desk) all w (bare d) d below

  size : length (desks_in all) ≡ length all
  size = length-map all (λ (x : Worker). x.desk)

  pub closes_together : All (Belongs b) (desks_in all)
  closes_together = λ k d below. (let inside : k < length all = omega (arith, below, size) in subst (Belongs b) (sym (desk_at k d inside)) (told_at k (bare d) inside).1.together)

  -- desks whose numbers rise by one
  numbers_of : (xs : List Worker) (k : ℕ) → ((w : ℕ) (d : Worker) → w < length xs → (get_or xs w d).desk.seat.number ≡ k + w) → map (λ (d : DeskView). d.seat.number) (desks_in xs) ≡ numbers_from k (length xs)
  numbers_of [] k each = refl
  numbers_of (x ∷ xs) k each =
      let first : x.desk.seat.number ≡ k = (let at : x.desk.seat.number ≡ k + 0 = each 0 x (omega arith) in omega (arith, at)) in
      let rest = numbers_of xs (suc k) (λ w d below. (let at : (get_or xs w d).desk.seat.number ≡ k + suc w = each (suc w) d (omega (arith, below)) in omega (arith, at))) in
      λ i. first i ∷ rest i

  pub closes_all : AreAll b (desks_in all)
  closes_all =
      let desks : b.ticks.start.desks ≡ length all = ap (λ (t : Start). t.desks) opens.ticks ∙ sym count in
      numbers_of all 0 (λ w d below. (let at = (told_at w d below).1.number in omega (arith, at))) ∙ ap upto (sym desks)

  -- in the book
  module _ (book : BucketLog) (closed : IsClosed b (desks_in all) book) where
    module _ (w : ℕ) (x : Worker) (one : IsDone b lines w x) (told : Told b w one.first x.jobs x.desk) (has : HasAll book x.desk) where
      first_mine : mine one.first.pass ≡ []
      first_mine = ap (own one.first.pass.number) one.new.no_call

      has_entries : entries_of w book.ticks.log ≡ entries_of w x.desk.seat.log
      has_entries = subst (λ (n : ℕ). entries_of n book.ticks.log ≡ entries_of n x.desk.seat.log) told.number has.entries

      start_tick : b.ticks.start.tick ≡ 0
      start_tick = ap (λ (t : Start). t.tick) opens.ticks

      pub served_by : IsServed (burst b) b.rate b.period w (lines_in x.jobs) (tolds x.jobs) (history book) book.ticks.log
      served_by = record {
        entries = has_entries ∙ told.entries ∙ ap (λ (log : List Entry). entries_of w log ++ map (λ (line : ThrottleLine). entry w (line.now / b.period)) (lines_in x.jobs)) one.new.no_entry;
        refilled = sym (
            claims_stay w 0 x.desk.seat.log book.ticks.log has.log has_entries
            ∙ subst (λ (n : ℕ). claims_of w n x.desk.seat.log ≡ claims_of w n one.first.seat.log ++ map (λ (t : Taken). t.refilled) (tolds x.jobs)) start_tick told.claims
            ∙ ap (λ (log : List Entry). claims_of w 0 log ++ map (λ (t : Taken). t.refilled) (tolds x.jobs)) one.new.no_entry
            );
        calls = subst (λ (n : ℕ). own n (history book) ≡ mine x.desk.pass) (told.together.number ∙ told.number) has.calls ∙ told.calls
            ∙ ap (λ (cs : List Call). cs ++ calls_from (burst b) b.rate w (length cs) (lines_in x.jobs) (tolds x.jobs)) first_mine;
        met = subst (λ (cs : List Call). AreMet (burst b) b.rate w (length cs) (history book) (lines_in x.jobs) (tolds x.jobs)) first_mine (told.met (history book) has.past);
      }

    module _ (answers : List Taken) (one_each : length answers ≡ length lines) (sorted : (w : ℕ) → w < length all → answers_of w lines answers ≡ tolds (jobs_of all w)) where
      served_at : (w : ℕ) → w < s.workers → IsServed s.burst s.rate s.period w (lines_of w lines) (answers_of w lines answers) (history book) book.ticks.log
      served_at w below =
          let inside : w < length all = omega (arith, below, count) in
          let at = found_at all w inside in
          let x : Worker = at.0 in
          let is : get_or all w x ≡ x = get_or_from_slice_get all w x x at.1 in
          let one : IsDone b lines w x = subst (IsDone b lines w) is (done w x inside) in
          let told = told_by b full w one.first x.jobs x.desk one.number one.new.together one.ran in
          let has : HasAll book x.desk = closed.each w x.desk (slice_get-map (λ (y : Worker). y.desk) all w ∙ ap (λ o. option_map (λ (y : Worker). y.desk) o) at.1) in
          let jobs : jobs_of all w ≡ x.jobs = get_or-map (λ (y : Worker). y.jobs) all w x [] inside ∙ ap (λ (y : Worker). y.jobs) is in
          subst (λ (n : ℕ). IsServed n s.rate s.period w (lines_of w lines) (answers_of w lines answers) (history book) book.ticks.log) opens.cap
          (subst (λ (n : ℕ). IsServed (burst b) n s.period w (lines_of w lines) (answers_of w lines answers) (history book) book.ticks.log) opens.rate
          (subst (λ (n : ℕ). IsServed (burst b) b.rate n w (lines_of w lines) (answers_of w lines answers) (history book) book.ticks.log) opens.period
          (subst (λ (ls : List ThrottleLine). IsServed (burst b) b.rate b.period w ls (answers_of w lines answers) (history book) book.ticks.log) one.dealt
          (subst (λ (ts : List Taken). IsServed (burst b) b.rate b.period w (lines_in x.jobs) ts (history book) book.ticks.log) (sym (sorted w inside ∙ ap tolds jobs)) (served_by w x one told has)))))

      pub throttled : IsThrottled s.workers s.burst s.rate s.period lines answers (history book) book.ticks.log
      throttled = record {
        one_each = one_each;
        served = served_at;
        callers = subst (λ (n : ℕ). All (λ (call : Call). call.pass < n) (history book)) (size ∙ count) closed.callers;
        enterers = subst (λ (n : ℕ). All (λ (e : Entry). e.desk < n) book.ticks.log) (size ∙ count) closed.enterers;
      }
