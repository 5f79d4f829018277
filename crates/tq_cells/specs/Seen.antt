-- What contracts see of cells, their seats and their book, and what a call tells.
--     CellsView, SeatView, CellLog, IsOf cells seat      the cells, a seat, a log, and that cells and seat belong together
--     Entered old entry new, Missed old expected found new      a seat made an entry, and its exchange found another word
--     fresh_seats cells, IsClosed seats book      the seats of cells that open, and what their closing tells
use Rattle.std.specs.Prelude.{◌≡◌, ◌≢◌, ℕ, ◌/◌, ◌%◌, ◌==◌, List, [], ◌∷◌, ◌++◌, map, filter, slice_get, Some}
use mathlib.Core.List.{IsPrefix}
use Rattle.atomic_table.specs.Seated.{TableId}
use Rattle.running.specs.Running.{upto}
use Rattle.tq_cells.specs.declared.entry.Start.{Start}
use Rattle.tq_cells.specs.declared.entry.Entry.{Entry}
use Rattle.tq_cells.specs.declared.entry.Entry.TheVariants.{Take, Free, Miss}
use Rattle.tq_cells.specs.declared.entry.Event.{Event}
use Rattle.tq_cells.specs.Laws.{IsExact, state, puts}

-- the cells: which table they are, and what they opened with
pub record CellsView : Type 0 where
  pub table : TableId
  pub start : Start

-- a seat: its table, its number there, what the table opened with, and the log that the seat has seen
pub record SeatView (T : Type 0) : Type 0 where
  pub table : TableId
  pub number : ℕ
  pub start : Start
  pub log : List (Event T)

-- a log, and what its table opened with
pub record CellLog (T : Type 0) : Type 0 where
  pub start : Start
  pub log : List (Event T)

module _ {T : Type 0} where
  -- the seat is one of these cells
  abbrev pub IsOf : CellsView → SeatView T → Type 0
  IsOf c p = (p.table ≡ c.table) × (p.start ≡ c.start)

  -- it is the same seat of the same cells, with another log
  abbrev pub IsSame : SeatView T → SeatView T → Type 0
  IsSame p q = (q.table ≡ p.table) × (q.number ≡ p.number) × (q.start ≡ p.start)

  -- the entries of one seat, in order
  abbrev pub entries_of : ℕ → List (Event T) → List (Event T)
  entries_of number log = filter (λ event. event.seat == number) log

  -- The seat made the entry: its log is what was logged until then, and the entry. Until then there was nothing more of this seat
  pub record Entered (p : SeatView T) (entry : Entry T) (q : SeatView T) : Type 0 where
    pub before : List (Event T)
    pub now : q ≡ record p { log = before ++ record { seat = p.number; entry = entry } ∷ [] }
    pub begins : IsPrefix p.log before
    pub own : entries_of p.number before ≡ entries_of p.number p.log
    pub exact : IsExact q.start q.log

  -- The seat's exchange found another word than it expected, which is the word of the cell at that place in the log; this is all that the seat did
  pub record Missed (p : SeatView T) (expected found : ℕ) (q : SeatView T) : Type 0 where
    pub entered : Entered p (Miss expected found) q
    pub another : found ≢ expected
    pub word : found ≡ (state p.start entered.before).turns (expected / 4 % p.start.capacity)

  -- the seat made two entries, one after the other
  abbrev pub EnteredBoth : SeatView T → Entry T → Entry T → SeatView T → Type 0
  EnteredBoth p first second q = (between : SeatView T) × Entered p first between × Entered between second q

  -- the seat took the ticket's turn, and then freed it; the item is the one that was put under the ticket
  abbrev pub Removed : SeatView T → ℕ → T → SeatView T → Type 0
  Removed p ticket x q = (between : SeatView T) × Entered p (Take ticket) between × Entered between (Free ticket) q × (puts ticket between.log ≡ x ∷ [])

  -- a seat of cells that open
  abbrev pub fresh : CellsView → ℕ → SeatView T
  fresh c number = record { table = c.table; number = number; start = c.start; log = [] }

  -- all seats of cells that open, by number
  abbrev pub fresh_seats : CellsView → List (SeatView T)
  fresh_seats c = map (fresh c) (upto c.start.seats)

  -- the seats are all that the cells have, by number
  abbrev pub AreAll : CellsView → List (SeatView T) → Type 0
  AreAll c seats = map (λ p. p.number) seats ≡ upto c.start.seats

  -- the log begins with what the seat has seen, and has no more entries of it
  pub record HasAll (log : List (Event T)) (p : SeatView T) : Type 0 where
    pub begins : IsPrefix p.log log
    pub own : entries_of p.number log ≡ entries_of p.number p.log

  -- a closed table's log: it is legal, has all that the seats have seen, and has no entry but theirs
  pub record IsClosed (seats : List (SeatView T)) (book : CellLog T) : Type 0 where
    pub exact : IsExact book.start book.log
    pub each : (k : ℕ) (p : SeatView T) → slice_get seats k ≡ Some p → HasAll book.log p
    pub only : (before after : List (Event T)) (event : Event T) → book.log ≡ before ++ event ∷ after → (k : ℕ) × (p : SeatView T) × (slice_get seats k ≡ Some p) × (p.number ≡ event.seat)
