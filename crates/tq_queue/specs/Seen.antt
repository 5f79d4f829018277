-- What contracts see of a ticket queue, its passes and its book.
--     QueueView, CallerView, BookView, IsOf queue pass      the queue, a pass, a closed queue, and that queue and pass belong together
--     OpensWith queue capacity passes      what a queue opens with
--     fresh_passes queue, IsWhole pass      the passes of a queue that opens
--     left_in pass      what is left of a pass's allowances
--     AreAll queue passes, IsClosed passes book      all passes of a queue, and what its closing tells
use Rattle.std.specs.Prelude.{◌≡◌, ℕ, ◌^◌, min, List, map, replicate, slice_get, Some}
use Rattle.running.specs.Running.{upto}
use Rattle.fn_model.specs.Calls.{own}
use Rattle.fn_model.specs.Integer.{value}
use Rattle.fn_core.specs.declared.Start.{Start}
use Rattle.fn_core.specs.Machine.{no_cap}
use Rattle.fn_core.specs.Calls.{CoreLog, calls_in, left_of}
use Rattle.fn_table.specs.Seen.{TableView, PassView}
use Rattle.fn_table.specs.Seen as funnel
use Rattle.fn_layout.specs.Workers.{IsShapeFor}
use Rattle.tq_cells.specs.Seen.{CellsView, SeatView, CellLog}
use Rattle.tq_cells.specs.Seen as cells
use Rattle.tq_queue.specs.declared.fours.Four.{Four}
use Rattle.tq_queue.specs.Fours.{Which, Free, pick, AllFour, map_four}

-- the queue: its cells and its four funnels
pub record QueueView : Type 0 where
  pub cells : CellsView
  pub funnels : Four TableView

-- a pass: its seat at the cells, and its pass of each funnel
pub record CallerView (T : Type 0) : Type 0 where
  pub seat : SeatView T
  pub passes : Four PassView

-- a closed queue: the log of its cells, and the book of each funnel
pub record BookView (T : Type 0) : Type 0 where
  pub cells : CellLog T
  pub funnels : Four CoreLog

-- the allowance of a pass in each funnel
abbrev pub allowance : ℕ
allowance = 2 ^ 52

-- a funnel for so many passes that begins at this number, at which no addition stops
pub record Begins (passes first : ℕ) (start : Start) : Type 0 where
  pub shape : IsShapeFor passes start.shape
  pub opening : start.opening ≡ first
  pub cap : start.cap ≡ no_cap
  pub allowances : start.allowances ≡ replicate passes allowance

-- the number at which each funnel of a queue begins
abbrev pub first_of : ℕ → Which → ℕ
first_of capacity Free = capacity
first_of capacity _ = 0

-- so do the four funnels of a queue
abbrev pub AllBegin : ℕ → ℕ → (Which → Start) → Type 0
AllBegin capacity passes starts = AllFour (λ w. Begins passes (first_of capacity w) (starts w))

-- what a queue opens with
pub record OpensWith (q : QueueView) (capacity passes : ℕ) : Type 0 where
  pub cells : q.cells.start ≡ record { capacity = capacity; seats = passes }
  pub funnels : AllBegin capacity passes (λ w. (pick w q.funnels).start)

-- the integer after all calls of a book
abbrev pub value_of : CoreLog → ℕ
value_of book = value book.start.cap book.start.opening (calls_in book)

-- what a pass has left of its allowance at a funnel
abbrev pub left : PassView → ℕ
left p = left_of p.seen p.number

-- a closed funnel: it has all that its passes have seen, and each pass's own calls
pub record HasClosed (t : TableView) (passes : List PassView) (book : CoreLog) : Type 0 where
  pub start : book.start ≡ t.start
  pub closed : funnel.IsClosed passes book
  pub calls : (k : ℕ) (p : PassView) → slice_get passes k ≡ Some p → own p.number (calls_in book) ≡ own p.number (calls_in p.seen)

module _ {T : Type 0} where
  -- the pass is one of this queue
  abbrev pub IsOf : QueueView → CallerView T → Type 0
  IsOf q p = cells.IsOf q.cells p.seat × AllFour (λ w. funnel.IsOf (pick w q.funnels) (pick w p.passes))

  -- the pass with another pass of `free`, or of `items`
  abbrev pub with_free : CallerView T → PassView → CallerView T
  with_free p free = record p { passes = record p.passes { free = free } }

  abbrev pub with_items : CallerView T → PassView → CallerView T
  with_items p items = record p { passes = record p.passes { items = items } }

  -- the least of what the pass has left of its four allowances
  abbrev pub left_in : CallerView T → ℕ
  left_in p = min (min (left p.passes.tail) (left p.passes.head)) (min (left p.passes.free) (left p.passes.items))

  -- a pass of a queue that opens: the seat and the four funnel passes of its number
  abbrev pub fresh : QueueView → ℕ → CallerView T
  fresh q number = record { seat = cells.fresh q.cells number; passes = map_four (λ t. funnel.fresh t number) q.funnels }

  -- all passes of a queue that opens, by number
  abbrev pub fresh_passes : QueueView → List (CallerView T)
  fresh_passes q = map (fresh q) (upto q.cells.start.seats)

  -- the pass has its whole allowance at each funnel
  abbrev pub IsWhole : CallerView T → Type 0
  IsWhole p = AllFour (λ w. left (pick w p.passes) ≡ allowance)

  -- the passes are all that the queue has, by number
  abbrev pub AreAll : QueueView → List (CallerView T) → Type 0
  AreAll q passes = map (λ p. p.seat.number) passes ≡ upto q.cells.start.seats

  -- a closed queue: its cells and its four funnels have closed over the seats and the passes handed in
  pub record IsClosed (q : QueueView) (passes : List (CallerView T)) (book : BookView T) : Type 0 where
    pub start : book.cells.start ≡ q.cells.start
    pub cells : cells.IsClosed (map (λ p. p.seat) passes) book.cells
    pub funnels : AllFour (λ w. HasClosed (pick w q.funnels) (map (λ p. pick w p.passes) passes) (pick w book.funnels))
