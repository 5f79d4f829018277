-- What a put and a take claim, in the words of the queue's four integers and of what the pass's seat has put and taken.
--     deeds seat      what the seat has put and taken, in order
--     HasDone seat deed ticket item after      the seat has done this, and nothing else
--     HasPassed from draws to keeps pass ticket after      three calls, by which one goes from one integer to another under a ticket
--     MadePut pass ticket item after, MadeTake pass ticket item after      the pass has put the item, and taken it
--     MetFull pass after, MetEmpty pass after      the pass has met no room, and no item
use Rattle.std.specs.Prelude.{◌≡◌, ℕ, ◌<◌, List, [], ◌∷◌, ◌++◌, flat_map}
use mathlib.Core.List.{IsPrefix}
use Rattle.fn_model.specs.declared.Kind.TheVariants.{Add, Sub}
use Rattle.fn_table.specs.Seen.{PassView}
use Rattle.fn_table.specs.Claims.{Made}
use Rattle.tq_cells.specs.declared.entry.Entry.{Entry}
use Rattle.tq_cells.specs.declared.entry.Entry.TheVariants.{Put, Take}
use Rattle.tq_cells.specs.Laws.{puts}
use Rattle.tq_cells.specs.Seen.{SeatView, IsSame, entries_of}
use Rattle.tq_queue.specs.Seen.{CallerView, with_free, with_items}

module _ {T : Type 0} where
  -- what an entry does: it puts an item, or takes one; the others, as an exchange that missed, do neither
  abbrev pub deed : Entry T → List (Entry T)
  deed (Put ticket item) = Put ticket item ∷ []
  deed (Take ticket) = Take ticket ∷ []
  deed _ = []

  -- what the seat has put and taken, in order
  abbrev pub deeds : SeatView T → List (Entry T)
  deeds p = flat_map (λ event. deed event.entry) (entries_of p.number p.log)

  -- The same seat has done this, and has put and taken nothing else. What it had seen has gone on, and under the ticket exactly this item was put
  pub record HasDone (p : SeatView T) (did : Entry T) (ticket : ℕ) (item : T) (q : SeatView T) : Type 0 where
    pub same : IsSame p q
    pub goes_on : IsPrefix p.log q.log
    pub deeds_now : deeds q ≡ deeds p ++ did ∷ []
    pub under : puts ticket q.log ≡ item ∷ []

  -- The pass made three calls of 1: it took from an integer that wasn't 0, drew the ticket from another, and gave to a third. The fourth is as it was
  pub record HasPassed (from draws to keeps : CallerView T → PassView) (p : CallerView T) (ticket : ℕ) (q : CallerView T) : Type 0 where
    pub there : ℕ
    pub some : 0 < there
    pub taken : Made (from p) Sub 1 there (from q)
    pub drawn : Made (draws p) Add 1 ticket (draws q)
    pub before : ℕ
    pub given : Made (to p) Add 1 before (to q)
    pub kept : keeps q ≡ keeps p

  -- the pass has put the item under the ticket: there was room for it, and one more item is there
  abbrev pub MadePut : CallerView T → ℕ → T → CallerView T → Type 0
  MadePut p ticket item q = HasPassed (λ c. c.passes.free) (λ c. c.passes.tail) (λ c. c.passes.items) (λ c. c.passes.head) p ticket q × HasDone p.seat (Put ticket item) ticket item q.seat

  -- the pass has taken the item of the ticket: it was there, and there is more room
  abbrev pub MadeTake : CallerView T → ℕ → T → CallerView T → Type 0
  MadeTake p ticket item q = HasPassed (λ c. c.passes.items) (λ c. c.passes.head) (λ c. c.passes.free) (λ c. c.passes.tail) p ticket q × HasDone p.seat (Take ticket) ticket item q.seat

  -- the pass made one call, which met no room; all else is as it was
  abbrev pub MetFull : CallerView T → CallerView T → Type 0
  MetFull p q = Made p.passes.free Sub 1 0 q.passes.free × (q ≡ with_free p q.passes.free)

  -- .. and one which met no item
  abbrev pub MetEmpty : CallerView T → CallerView T → Type 0
  MetEmpty p q = Made p.passes.items Sub 1 0 q.passes.items × (q ≡ with_items p q.passes.items)
