-- All workers make their calls at once, from the places with room for their answers to those that have them.
use Rattle.std.proofs.Common.{◌≡◌, ◌<◌, ◌≤◌, ◌++◌, ℕ, List, [], length, get_or, sym, ap, ◌∙◌, subst, arith, All}
use Rattle.std.proofs.lemmas.List.{length-map}
use Rattle.quota_pool.specs.Views.{PoolView, DeskView}
use Rattle.quota_pool.specs.declared.moved.Moved.{Moved}
use Rattle.trace_text.specs.declared.traces.Row.{Row}
use Rattle.replay_run.specs.declared.places.Place.{Place}
use Rattle.replay_run.specs.Work.{Job, Seat, no_row, rows_at, rows_in, answers_in, of_worker, answered, IsFresh, AreFresh, MayRun, MayWork, Ran, MayBegin, IsRoomy, IsDone, Worked, HaveAnswers, AreMade, gathered, seat_of, seats}
use Rattle.replay_run.proofs.Counts.{no_seat}
use Rattle.replay_run.proofs.Seated.{rows_answered, answered_again, desks_seated, made_count, placed}

-- what a place was left with is what its seat's worker did
worked_so : (pool : PoolView) (rows : List Row) (old mid new : Place) → IsRoomy old mid → IsDone pool rows mid new → Worked pool (seat_of rows old) (seat_of rows new)
worked_so pool rows old mid new roomy done =
    let was : List Row = rows_at rows old.jobs.numbers.items in
    let mine : List Row = rows_at rows new.jobs.numbers.items in
    let made = done.made in
    let middle : mine ≡ rows_at rows mid.jobs.numbers.items = ap (rows_at rows) done.same in
    let same : mine ≡ was = middle ∙ ap (rows_at rows) roomy.numbers in
    let jobs : made.jobs ≡ answered mine new.jobs.answers.items =
    sym (answered_again made.jobs) ∙ ap (λ (rs : List Row). answered rs (answers_in made.jobs)) (made.rows_are ∙ sym middle) ∙ ap (answered mine) (sym made.added) in
    record {
      rows = rows_answered mine new.jobs.answers.items ∙ same ∙ sym (rows_answered was old.jobs.answers.items);
      ran = subst (λ (desk : DeskView). Ran pool desk (answered mine new.jobs.answers.items) new.desk) roomy.desk (subst (λ (js : List Job). Ran pool mid.desk js new.desk) jobs made.ran);
    }

module _ (pool : PoolView) (rows : List Row) (before roomed : List Place) (size : length roomed ≡ length before) (fresh : AreFresh rows before) (may : All (MayWork pool) (seats rows before))
    (roomy : (worker : ℕ) (d : Place) → worker < length before → IsRoomy (get_or before worker d) (get_or roomed worker d)) where
  pub may_begin_all : All (MayBegin pool rows) roomed
  may_begin_all = λ worker d within.
      let inside : worker < length before = omega (arith, within, size) in
      let (p, is, seated) = placed rows before worker inside in
      let now : Place = get_or roomed worker d in
      let room : IsRoomy p now = subst (λ (x : Place). IsRoomy x now) (is d) (roomy worker d inside) in
      let new : IsFresh rows (of_worker worker rows) p.jobs = subst (λ (x : Place). IsFresh rows (of_worker worker rows) x.jobs) (is d) (fresh worker d inside) in
      let work : MayWork pool (seat_of rows p) = subst (MayWork pool) (seated (seat_of rows p)) (may worker (seat_of rows p) (omega (arith, inside, length-map before (seat_of rows)))) in
      let mine : MayRun pool p.desk (rows_at rows p.jobs.numbers.items) = subst (MayRun pool p.desk) (rows_answered (rows_at rows p.jobs.numbers.items) p.jobs.answers.items) work in
      record {
        may = subst (λ (desk : DeskView). MayRun pool desk (rows_at rows now.jobs.numbers.items)) (sym room.desk) (subst (λ (ns : List ℕ). MayRun pool p.desk (rows_at rows ns)) (sym room.numbers) mine);
        within = subst (λ (ns : List ℕ). All (λ (n : ℕ). n < length rows) ns) (sym room.numbers) new.within;
        none = room.none;
        room = room.room;
      }

  module _ (after : List Place) (same : length after ≡ length roomed) (done : (worker : ℕ) (d : Place) → worker < length roomed → IsDone pool rows (get_or roomed worker d) (get_or after worker d)) where
    pub have_answers : HaveAnswers rows after
    have_answers = record { dealt = dealt; full = full }
      where
        dealt : (worker : ℕ) → worker < length (seats rows after) → rows_in (get_or (seats rows after) worker no_seat).jobs ≡ of_worker worker rows
        dealt worker within =
            let there : worker < length after = omega (arith, within, length-map after (seat_of rows)) in
            let (q, is, seated) = placed rows after worker there in
            let inside : worker < length before = omega (arith, there, same, size) in
            let numbers : (get_or after worker q).jobs.numbers.items ≡ (get_or before worker q).jobs.numbers.items = (done worker q (omega (arith, there, same))).same ∙ (roomy worker q inside).numbers in
            let mine : List Row = rows_at rows q.jobs.numbers.items in
            let all : mine ≡ of_worker worker rows = ap (λ (p : Place). rows_at rows p.jobs.numbers.items) (sym (is q)) ∙ ap (rows_at rows) numbers ∙ (fresh worker q inside).mine_are in
            ap (λ (s : Seat). rows_in s.jobs) (seated no_seat) ∙ rows_answered mine q.jobs.answers.items ∙ all

        full : (worker : ℕ) (d : Place) → worker < length after → length (get_or after worker d).jobs.numbers.items ≤ length (get_or after worker d).jobs.answers.items
        full worker d within =
            let its = done worker d (omega (arith, within, same)) in
            let old : Place = get_or roomed worker d in
            let new : Place = get_or after worker d in
            let count = made_count pool old.desk new.desk (rows_at rows old.jobs.numbers.items) [] new.jobs.answers.items its.made in
            omega (arith, count, length-map old.jobs.numbers.items (λ (n : ℕ). get_or rows n no_row), ap length its.same)

    pub made_together : (old new : List Moved) → new ≡ old ++ gathered rows (seats rows after) → AreMade pool rows before old after new
    made_together old new added = record {
      done = seats rows after;
      count = length-map after (seat_of rows) ∙ same ∙ size;
      desks = sym (desks_seated rows after);
      worked = worked;
      added = added;
    }
      where
        worked : (worker : ℕ) (d : Seat) → worker < length before → Worked pool (get_or (seats rows before) worker d) (get_or (seats rows after) worker d)
        worked worker d inside =
            let there : worker < length after = omega (arith, inside, same, size) in
            let (p, p_is, p_seat) = placed rows before worker inside in
            let (q, q_is, q_seat) = placed rows after worker there in
            let mid : Place = get_or roomed worker p in
            let room : IsRoomy p mid = subst (λ (x : Place). IsRoomy x mid) (p_is p) (roomy worker p inside) in
            let its : IsDone pool rows mid q = subst (IsDone pool rows mid) (q_is p) (done worker p (omega (arith, inside, size))) in
            subst (λ (s : Seat). Worked pool s (get_or (seats rows after) worker d)) (sym (p_seat d)) (subst (λ (s : Seat). Worked pool (seat_of rows p) s) (sym (q_seat d)) (worked_so pool rows p mid q room its))
