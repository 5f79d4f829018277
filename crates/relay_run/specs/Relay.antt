-- What relaying lines tells.
--     lines_at workers count worker      the numbers of a worker's lines
--     items_put entries      the items that entries put, in order
--     IsRelay workers capacity count book      what the queue was through which so many lines went
--     order_of count book      the numbers of the lines by rising ticket
--     text_from ticket lines numbers      the text of lines by rising ticket
use Rattle.std.specs.Prelude.{◌≡◌, ℕ, suc, ◌%◌, ◌==◌, nat_lt, if◌then◌else◌, List, [], ◌∷◌, ◌++◌, length, filter, flat_map, slice_index_or, codes, decimal}
use Rattle.running.specs.Running.{upto}
use Rattle.tq_cells.specs.declared.entry.Entry.{Entry}
use Rattle.tq_cells.specs.declared.entry.Entry.TheVariants.{Put}
use Rattle.tq_cells.specs.declared.entry.Event.{Event}
use Rattle.tq_cells.specs.Laws.{IsExact, puts, takes}
use Rattle.tq_cells.specs.Seen.{entries_of}
use Rattle.tq_queue.specs.Kept.{tickets_put, tickets_taken}
use Rattle.tq_queue.specs.Laws.{Rises}
use Rattle.tq_queue.specs.Seen.{BookView}

-- the numbers of a worker's lines, in order
abbrev pub lines_at : ℕ → ℕ → ℕ → List ℕ
lines_at workers count worker = filter (λ line. line % workers == worker) (upto count)

-- the item that an entry puts
abbrev pub item_put : Entry ℕ → List ℕ
item_put (Put ticket item) = item ∷ []
item_put _ = []

-- the items that are put, in order
abbrev pub items_put : List (Event ℕ) → List ℕ
items_put log = flat_map (λ event. item_put event.entry) log

-- Each seat put the numbers of its worker's lines, in order and under rising tickets, and took as many. The tickets are those below the number of lines, each put once and taken once
pub record IsRelay (workers capacity count : ℕ) (book : BookView ℕ) : Type 0 where
  pub start : book.cells.start ≡ record { capacity = capacity; seats = workers }
  pub legal : IsExact book.cells.start book.cells.log
  pub lines : (seat : ℕ) → items_put (entries_of seat book.cells.log) ≡ lines_at workers count seat
  pub rising : (seat : ℕ) → Rises 0 (tickets_put (entries_of seat book.cells.log))
  pub even : (seat : ℕ) → length (tickets_taken (entries_of seat book.cells.log)) ≡ length (lines_at workers count seat)
  pub puts : (ticket : ℕ) → length (puts ticket book.cells.log) ≡ (if nat_lt ticket count then 1 else 0)
  pub takes : (ticket : ℕ) → takes ticket book.cells.log ≡ (if nat_lt ticket count then 1 else 0)

-- the numbers of the lines, by rising ticket
abbrev pub order_of : ℕ → BookView ℕ → List ℕ
order_of count book = flat_map (λ ticket. puts ticket book.cells.log) (upto count)

-- a line of the text
abbrev pub line_text : ℕ → List ℕ → List ℕ
line_text ticket line = decimal ticket ++ codes " " ++ line ++ codes "\n"

-- the text of the lines with these numbers, under the tickets from this one on
abbrev pub text_from : ℕ → List (List ℕ) → List ℕ → List ℕ
text_from ticket lines [] = []
text_from ticket lines (number ∷ numbers) = line_text ticket (slice_index_or lines number []) ++ text_from (suc ticket) lines numbers
