-- A segment's last steps, by what its workers have left.
use Rattle.std.proofs.Common.{◌≡◌, ◌<◌, [], take, ℕ, List, length, map, get_or, slice_get, Some, Vec, refl, sym, ap, ◌∙◌, subst, arith, All}
use Rattle.std.proofs.lemmas.List.{length-map, with_items_is, get_or-map}
use Rattle.std.proofs.lemmas.Option.{slice_get_within, get_or_from_slice_get}
use Rattle.std.specs.declared.alloc.Global.{Global}
use Rattle.std.specs.Vec.{with_items}
use Rattle.running.specs.Running.{upto}
use Rattle.fn_core.specs.Calls.{CoreLog}
use Rattle.quota_pool.specs.Views.{PoolView, DeskView, Belongs}
use Rattle.quota_pool.specs.Claims.{TellsBooks}
use Rattle.quota_pool.specs.Closed.{AreClosed}
use Rattle.quota_pool.specs.declared.moved.Moved.{Moved}
use Rattle.quota_pool.proofs.Laws.{found_at}
use Rattle.trace_text.specs.declared.traces.Row.{Row}
use Rattle.trace_text.specs.declared.traces.Tenant.{Tenant}
use Rattle.replay_run.specs.declared.places.Place.{Place}
use Rattle.replay_run.specs.Replay.{IsBook, IsAnswered}
use Rattle.replay_run.specs.Ready.{IsSoundSegment, IsReady, Adds}
use Rattle.replay_run.specs.Work.{Seat, MayWork, Worked, AreMade, desks_at, desks_in, seat_of, seats, gathered}
use Rattle.replay_run.proofs.Counts.{length_gathered}
use Rattle.replay_run.proofs.NoFault.{workers_there}
use Rattle.replay_run.proofs.Whole.{count_places, may_work, still_together, still_all, is_book, is_answered}

-- the caps of tenants
abbrev pub caps_in : List Tenant → List ℕ
caps_in tenants = map (λ (tenant : Tenant). tenant.cap) tenants

module _ (workers : ℕ) (tenants : List Tenant) (caps openings : List ℕ) (rows : List Row) (pool : PoolView) (v : Vec Place Global) (before : List Place)
    (same : caps ≡ caps_in tenants) (whole : IsSoundSegment workers (caps_in tenants) openings rows) (ready : IsReady workers caps openings rows pool (seats rows v.items)) (is : before ≡ v.items) where
  sound : IsSoundSegment workers caps openings rows
  sound = subst (λ (cs : List ℕ). IsSoundSegment workers cs openings rows) (sym same) whole

  all_seats : length (seats rows v.items) ≡ workers
  all_seats = count_places workers caps openings rows pool (seats rows v.items) sound ready

  pub count_before : length before ≡ workers
  count_before = ap length is ∙ sym (length-map v.items (seat_of rows)) ∙ all_seats

  pub may_begin : All (MayWork pool) (seats rows before)
  may_begin = subst (λ (ps : List Place). All (MayWork pool) (seats rows ps)) (sym is) (may_work workers caps openings rows pool (seats rows v.items) sound ready)

  pub rows_there : All (λ (row : Row). row.worker < length before) rows
  rows_there = λ k d within. omega (arith, count_before, workers_there workers (length caps) rows sound.sound k d within)

  module _ (old new : List Moved) (after : List Place) (made : AreMade pool rows before old after new) where
    -- what the workers have done in the end
    abbrev done : List Seat
    done = made.done

    long : length done ≡ length (seats rows v.items)
    long = made.count ∙ ap length is ∙ sym (length-map v.items (seat_of rows))

    so : (worker : ℕ) (d : Seat) → worker < length (seats rows v.items) → Worked pool (get_or (seats rows v.items) worker d) (get_or done worker d)
    so worker d within =
        subst (λ (ps : List Place). Worked pool (get_or (seats rows ps) worker d) (get_or done worker d)) is
        (made.worked worker d (omega (arith, within, length-map v.items (seat_of rows), ap length is)))

    size : length after ≡ length before
    size = sym (length-map after (λ (p : Place). p.desk)) ∙ ap length made.desks ∙ length-map done (λ (s : Seat). s.desk) ∙ made.count

    left_is : (with_items v after).items ≡ after
    left_is = with_items_is v after (size ∙ ap length is ∙ sym v.ok.0)

    pub desks_left : desks_at (with_items v after).items ≡ desks_in done
    desks_left = ap desks_at left_is ∙ made.desks

    pub count_done : length (with_items v after).items ≡ workers
    count_done = ap length left_is ∙ size ∙ count_before

    pub together_done : All (Belongs pool) (desks_in done)
    together_done = still_together workers caps openings rows pool (seats rows v.items) sound ready done long so

    pub all_done : map (λ (d : DeskView). d.worker) (desks_in done) ≡ upto pool.workers
    all_done = still_all workers caps openings rows pool (seats rows v.items) sound ready done long so

    module _ (books : List CoreLog) (told : TellsBooks pool (desks_in done) books) (closed : AreClosed (desks_in done) books) where
      count_books : length books ≡ length tenants
      count_books = told.tenants ∙ ready.opened.tenants ∙ sound.one_each ∙ ap length same ∙ length-map tenants (λ (t : Tenant). t.cap)

      each_book : (t : ℕ) (tenant : Tenant) (book : CoreLog) → slice_get tenants t ≡ Some tenant → slice_get books t ≡ Some book → IsBook workers tenant.cap (get_or openings t 0) t rows book
      each_book t tenant book here there =
          let table = found_at pool.tables t (omega (arith, slice_get_within books t book there, told.tenants)) in
          let cap : get_or caps t 0 ≡ tenant.cap =
          ap (λ (cs : List ℕ). get_or cs t 0) same ∙ get_or-map (λ (x : Tenant). x.cap) tenants t tenant 0 (slice_get_within tenants t tenant here) ∙ ap (λ (x : Tenant). x.cap) (get_or_from_slice_get tenants t tenant tenant here) in
          subst (λ (n : ℕ). IsBook workers n (get_or openings t 0) t rows book) cap (is_book workers caps openings rows pool (seats rows v.items) sound ready done long so books told closed t table.0 book table.1 there)

      each_answer : (k : ℕ) (row : Row) (answer : Moved) (book : CoreLog) → slice_get rows k ≡ Some row → slice_get (gathered rows done) k ≡ Some answer → slice_get books row.tenant ≡ Some book → IsAnswered (take k rows) row answer book
      each_answer k row answer book here got there =
          let table = found_at pool.tables row.tenant (omega (arith, slice_get_within books row.tenant book there, told.tenants)) in
          is_answered workers caps openings rows pool (seats rows v.items) sound ready done long so books told closed row.tenant table.0 book table.1 there k row answer here got refl

      pub adds : Adds workers tenants openings rows old new books
      adds = record {
        answers = gathered rows done;
        added = made.added;
        segment = record {
          one_each = length_gathered [] done rows;
          all = count_books;
          closed = each_book;
          answered = each_answer;
        };
      }
