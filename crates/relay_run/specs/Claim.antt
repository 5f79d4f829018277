-- What a relay claims, in words of lines and their numbers alone.
--     own_lines workers worker order      a worker's lines, as they stand in an order
--     IsOrder workers count order      the order has all lines, and keeps each worker's
--     TellsRelay workers lines text      the text tells the lines in such an order
use Rattle.std.specs.Prelude.{◌≡◌, ℕ, ◌%◌, ◌==◌, nat_lt, if◌then◌else◌, List, length, filter, count_by}
use Rattle.running.specs.Running.{upto}
use Rattle.relay_run.specs.Relay.{text_from}

-- a worker's lines among these, as they stand there: those whose number, divided by how many workers there are, leaves the worker's
abbrev pub own_lines : ℕ → ℕ → List ℕ → List ℕ
own_lines workers worker order = filter (λ line. line % workers == worker) order

-- The number of each line stands in the order once, and no other number does. Each worker's lines stand in it in the order in which they were given
pub record IsOrder (workers count : ℕ) (order : List ℕ) : Type 0 where
  pub once : (line : ℕ) → count_by (λ number. number == line) order ≡ (if nat_lt line count then 1 else 0)
  pub own : (worker : ℕ) → own_lines workers worker order ≡ own_lines workers worker (upto count)

-- the text is that of all lines in such an order, each behind its place there
abbrev pub TellsRelay : ℕ → List (List ℕ) → List ℕ → Type 0
TellsRelay workers lines text = (order : List ℕ) × IsOrder workers (length lines) order × (text ≡ text_from 0 lines order)
