-- What holds of a queue and of its passes between their calls.
--     tickets_put entries, tickets_taken entries      the tickets that entries put and take, in order
--     IsOpen queue, Keeps pass      what holds of each queue and of each pass
use Rattle.std.specs.Prelude.{◌≡◌, ℕ, ◌≤◌, List, [], ◌∷◌, length, flat_map}
use Rattle.fn_core.specs.Calls.{calls_in, IsIdle}
use Rattle.fn_table.specs.Seen.{PassView}
use Rattle.tq_cells.specs.declared.entry.Start.{Start}
use Rattle.tq_cells.specs.declared.entry.Entry.{Entry}
use Rattle.tq_cells.specs.declared.entry.Entry.TheVariants.{Put, Take}
use Rattle.tq_cells.specs.declared.entry.Event.{Event}
use Rattle.tq_cells.specs.Seen.{SeatView, entries_of}
use Rattle.tq_queue.specs.Answers.{Answered, answered, answers_of, raised, lowered, AreTickets}
use Rattle.tq_queue.specs.Fours.{pick, AllFour}
use Rattle.tq_queue.specs.Seen.{QueueView, CallerView, AllBegin}

-- a funnel pass's own calls, each with what it met
abbrev pub own_answers : PassView → List Answered
own_answers p = answers_of p.number (answered p.seen.start.cap p.seen.start.opening (calls_in p.seen))

-- what cells of a queue open with
abbrev pub AreSizes : Start → Type 0
AreSizes start = (1 ≤ start.capacity) × (start.capacity ≤ 65536) × (1 ≤ start.seats) × (start.seats ≤ 64)

-- what holds of each queue
pub record IsOpen (q : QueueView) : Type 0 where
  pub sizes : AreSizes q.cells.start
  pub begin : AllBegin q.cells.start.capacity q.cells.start.seats (λ w. (pick w q.funnels).start)

module _ {T : Type 0} where
  -- the ticket that an entry puts
  abbrev pub ticket_put : Entry T → List ℕ
  ticket_put (Put t x) = t ∷ []
  ticket_put _ = []

  -- the ticket that an entry takes
  abbrev pub ticket_taken : Entry T → List ℕ
  ticket_taken (Take t) = t ∷ []
  ticket_taken _ = []

  -- the tickets that are put, in order
  abbrev pub tickets_put : List (Event T) → List ℕ
  tickets_put log = flat_map (λ event. ticket_put event.entry) log

  -- the tickets that are taken, in order
  abbrev pub tickets_taken : List (Event T) → List ℕ
  tickets_taken log = flat_map (λ event. ticket_taken event.entry) log

  -- what a seat has put, and what it has taken
  abbrev pub own_puts : SeatView T → List ℕ
  own_puts p = tickets_put (entries_of p.number p.log)

  abbrev pub own_takes : SeatView T → List ℕ
  own_takes p = tickets_taken (entries_of p.number p.log)

  -- The pass makes no call. Each ticket that it has put came from its calls on `tail`, and each that it has taken from those on `head`. As many calls took room as it has put, and as many gave room as it has taken; with items it is the other way round
  pub record Keeps (p : CallerView T) : Type 0 where
    pub sizes : AreSizes p.seat.start
    pub numbers : AllFour (λ w. (pick w p.passes).number ≡ p.seat.number)
    pub begin : AllBegin p.seat.start.capacity p.seat.start.seats (λ w. (pick w p.passes).seen.start)
    pub idle : AllFour (λ w. IsIdle (pick w p.passes).seen (pick w p.passes).number)
    pub tail : AreTickets (own_answers p.passes.tail) (own_puts p.seat)
    pub head : AreTickets (own_answers p.passes.head) (own_takes p.seat)
    pub free : (lowered (own_answers p.passes.free) ≡ length (own_puts p.seat)) × (raised (own_answers p.passes.free) ≡ length (own_takes p.seat))
    pub items : (raised (own_answers p.passes.items) ≡ length (own_puts p.seat)) × (lowered (own_answers p.passes.items) ≡ length (own_takes p.seat))
