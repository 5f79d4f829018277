-- What the seats of cells know.
--     shown      the seat that keeps one number
--     IsDealer, IsGathering      the seat that deals the numbers out at the opening, and the one that gathers all at the closing
--     nowhere      the start that a seat names which has ended
use Rattle.std.specs.Prelude.{◌≡◌, ◌<◌, ◌-◌, ℕ, Option, List, [], ◌∷◌, map}
use Rattle.atomic_table.specs.Seated.{TableId}
use Rattle.atomic_table.specs.declared.shared.Seat.{Seat}
use Rattle.running.specs.declared.Part.{Part}
use Rattle.running.specs.Running.{part, log_of, knows, numbers_from}
use Rattle.tq_cells.specs.declared.entry.Start.{Start}
use Rattle.tq_cells.specs.declared.entry.Event.{Event}
use Rattle.tq_cells.specs.Rule.{Known}
use Rattle.tq_cells.specs.Seen.{SeatView, CellLog}

module _ {T : Type 0} where
  -- the seat of this number
  abbrev pub shown : TableId → ℕ → Known T → SeatView T
  shown z n v = record { table = z; number = n; start = v.start; log = log_of v.parts }

  -- the log that a seat has seen
  abbrev pub shown_log : Known T → CellLog T
  shown_log v = record { start = v.start; log = log_of v.parts }

  -- the seat that deals the numbers out keeps 0 and those from this one on, and nothing has been entered
  pub record IsDealer (z : TableId) (start : Start) (number : ℕ) (s : Seat (Option T) (Known T)) : Type 0 where
    pub table : s.table_id ≡ z
    pub knows : s.me ≡ (knows start (0 ∷ numbers_from number (start.seats - number)) [], [])
    pub some_cell : 0 < start.capacity

  -- the seat as a part of what another knows
  abbrev pub part_of : SeatView T → Part (Event T)
  part_of p = part (p.number ∷ []) p.log

  -- the seat that gathers others knows what they do
  pub record IsGathering (z : TableId) (start : Start) (seats : List (SeatView T)) (s : Seat (Option T) (Known T)) : Type 0 where
    pub table : s.table_id ≡ z
    pub opened : s.me.0.start ≡ start
    pub parts : s.me.0.parts ≡ part [] (log_of s.me.0.parts) ∷ map part_of seats
    pub empty : s.me.1 ≡ []

-- the start that a seat names which has ended
abbrev pub nowhere : Start
nowhere = record { capacity = 1; seats = 1 }
