-- What all workers' puts and takes make of the book.
use Rattle.std.proofs.Common.{◌≡◌, ℕ, ◌<◌, List, [], ◌∷◌, length, Some, slice_get, inl, inr, refl, sym, ◌∙◌, ap, subst, arith}
use Rattle.std.specs.Prelude.{All, nat_lt, if◌then◌else◌}
use Rattle.std.proofs.lemmas.Bool.{cases_lt}
use Rattle.std.proofs.lemmas.List.{length-append}
use Rattle.std.proofs.lemmas.Option.{get_or_from_slice_get, slice_get_within}
use Rattle.tq_cells.specs.declared.entry.Entry.{Entry}
use Rattle.tq_cells.specs.declared.entry.Entry.TheVariants as entries
use Rattle.tq_cells.specs.declared.entry.Event.{Event}
use Rattle.tq_cells.specs.declared.entry.Start as cell
use Rattle.tq_cells.specs.Seen.{entries_of}
use Rattle.tq_queue.specs.Kept.{own_takes, tickets_put, tickets_taken, ticket_put}
use Rattle.tq_queue.specs.Laws.{IsSound}
use Rattle.tq_queue.specs.Seen.{QueueView, CallerView, BookView, AreAll, IsClosed, value_of}
use Rattle.tq_queue.proofs.Laws.{seats_have_passes, entries_have_seats, entries_are_of_passes, none_beyond, tail_counts_puts, head_counts_takes}
use Rattle.relay_run.specs.Relay.{lines_at, items_put, item_put, IsRelay}
use Rattle.relay_run.specs.Work.{own_items}
use Rattle.relay_run.proofs.Strides.{no_lines, lines_shared}

-- as many items as tickets
pub as_many_items : (log : List (Event ℕ)) → length (tickets_put log) ≡ length (items_put log)
as_many_items [] = refl
as_many_items (e ∷ log) = omega (arith, length-append (ticket_put e.entry) (tickets_put log), length-append (item_put e.entry) (items_put log), as_many_items log, same e.entry)
  where
    same : (entry : Entry ℕ) → length (ticket_put entry) ≡ length (item_put entry)
    same (entries.Hold t) = refl
    same (entries.Put t x) = refl
    same (entries.Take t) = refl
    same (entries.Free t) = refl
    same (entries.Miss expected found) = refl

-- the pass has put the lines of its number, and taken as many
pub record HasRelayed (workers count : ℕ) (p : CallerView ℕ) : Type 0 where
  pub items : own_items p.seat ≡ lines_at workers count p.seat.number
  pub takes : length (own_takes p.seat) ≡ length (lines_at workers count p.seat.number)

module _ (q : QueueView) (ps : List (CallerView ℕ)) (book : BookView ℕ) (all : AreAll q ps) (closed : IsClosed q ps book) where
  abbrev n : ℕ
  n = q.cells.start.seats

  abbrev log : List (Event ℕ)
  log = book.cells.log

  pub seats_below : All (λ (e : Event ℕ). e.seat < n) log
  seats_below = entries_have_seats q ps all book closed

  -- the pass of a seat
  module _ (seat : ℕ) (range : seat < n) where
    pub pass_of : CallerView ℕ
    pass_of = (seats_have_passes q ps all seat range).pass

    pub pass_at : slice_get ps seat ≡ Some pass_of
    unfolding pass_of
    pass_at = (seats_have_passes q ps all seat range).at

    pub pass_by : pass_of.seat.number ≡ seat
    unfolding pass_of
    pass_by = (seats_have_passes q ps all seat range).number

    pub entries_same : entries_of seat log ≡ entries_of pass_of.seat.number pass_of.seat.log
    entries_same = entries_are_of_passes q ps all book closed seat pass_of pass_at pass_by

  module _ (count : ℕ) (sound : IsSound book) (some_seat : 0 < n) (relayed : All (HasRelayed n count) ps) where
    has_relayed : (seat : ℕ) (range : seat < n) → HasRelayed n count (pass_of seat range)
    has_relayed seat range =
        let p : CallerView ℕ = pass_of seat range in
        let at : slice_get ps seat ≡ Some p = pass_at seat range in
        subst (HasRelayed n count) (get_or_from_slice_get ps seat p p at) (relayed seat p (slice_get_within ps seat p at))

    pub lines_put : (seat : ℕ) → items_put (entries_of seat log) ≡ lines_at n count seat
    lines_put seat = elim (cases_lt seat n) [
      | inl range ↦ ap items_put (entries_same seat range) ∙ (has_relayed seat range).items ∙ ap (lines_at n count) (pass_by seat range)
      | inr beyond ↦ ap items_put (none_beyond n seat log seats_below beyond) ∙ sym (no_lines n count seat some_seat beyond)
    ]

    pub taken_even : (seat : ℕ) → length (tickets_taken (entries_of seat log)) ≡ length (lines_at n count seat)
    taken_even seat = elim (cases_lt seat n) [
      | inl range ↦ ap (λ (es : List (Event ℕ)). length (tickets_taken es)) (entries_same seat range) ∙ (has_relayed seat range).takes ∙ ap (λ (k : ℕ). length (lines_at n count k)) (pass_by seat range)
      | inr beyond ↦ ap (λ (es : List (Event ℕ)). length (tickets_taken es)) (none_beyond n seat log seats_below beyond) ∙ ap length (sym (no_lines n count seat some_seat beyond))
    ]

    all_put : value_of book.funnels.tail ≡ count
    all_put =
        tail_counts_puts n book seats_below sound (λ seat. length (lines_at n count seat)) (λ seat range. as_many_items (entries_of seat log) ∙ ap length (lines_put seat))
        ∙ lines_shared n count some_seat

    all_taken : value_of book.funnels.head ≡ count
    all_taken = head_counts_takes n book seats_below sound (λ seat. length (lines_at n count seat)) (λ seat range. taken_even seat) ∙ lines_shared n count some_seat

    pub is_relay : (workers capacity : ℕ) → q.cells.start ≡ record { capacity = capacity; seats = workers } → IsRelay workers capacity count book
    is_relay workers capacity start =
        let same : n ≡ workers = ap (λ (s : cell.Start). s.seats) start in record {
          start = closed.start ∙ start;
          legal = closed.cells.exact;
          lines = λ seat. lines_put seat ∙ ap (λ (m : ℕ). lines_at m count seat) same;
          rising = sound.rising_puts;
          even = λ seat. taken_even seat ∙ ap (λ (m : ℕ). length (lines_at m count seat)) same;
          puts = λ t. sound.puts t ∙ ap (λ (m : ℕ). if nat_lt t m then 1 else 0) all_put;
          takes = λ t. sound.takes t ∙ ap (λ (m : ℕ). if nat_lt t m then 1 else 0) all_taken;
        }
