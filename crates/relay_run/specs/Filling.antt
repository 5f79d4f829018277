-- The numbers of lines, each written at its ticket.
--     filled line place tickets order      those of one worker
--     all_filled workers worker tickets order      those of all workers from one on
use Rattle.std.specs.Prelude.{ℕ, suc, List, [], ◌∷◌, slice_set}
use Rattle.relay_run.specs.Work.{line_of}

-- the numbers of the lines from a place on, each written at its ticket
abbrev pub filled : (ℕ → ℕ) → ℕ → List ℕ → List ℕ → List ℕ
filled line place [] order = order
filled line place (ticket ∷ tickets) order = filled line (suc place) tickets (slice_set order ticket (line place))

-- .. by all workers from this one on
abbrev pub all_filled : ℕ → ℕ → List (List ℕ) → List ℕ → List ℕ
all_filled workers worker [] order = order
all_filled workers worker (own ∷ rest) order = all_filled workers (suc worker) rest (filled (line_of workers worker) 0 own order)
