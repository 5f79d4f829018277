-- What the seats of a table know, and what a step of one owes.
--     Known      what a seat knows
--     shown, HasOne      the pass of a seat that keeps one number
--     IsStep pass step f      for the pass, the step makes f of the number found in its word
--     IsDealer, IsGathering      the seat that deals the passes out at the opening, and the one that gathers them at the closing
use Rattle.std.specs.Prelude.{◌≡◌, ◌<◌, ◌-◌, ℕ, List, [], ◌∷◌, map}
use Rattle.std.proofs.Common.{lit≤}
use Rattle.atomic_table.specs.Seated.{TableId}
use Rattle.atomic_table.specs.declared.shared.Seat.{Seat}
use Rattle.running.specs.declared.Part.{Part}
use Rattle.running.specs.declared.View.{View}
use Rattle.running.specs.Machine.{IsLegal, own_of, found}
use Rattle.running.specs.Running.{part, log_of, knows, numbers_from}
use Rattle.fn_core.specs.declared.Start.{Start}
use Rattle.fn_core.specs.declared.Event.{Event}
use Rattle.fn_core.specs.declared.Move.{Move}
use Rattle.fn_core.specs.Machine.{IsStart}
use Rattle.fn_core.specs.Words.{change}
use Rattle.fn_core.specs.Calls.{CoreLog}
use Rattle.fn_table.specs.Funnel.{funnel}
use Rattle.fn_table.specs.Seen.{PassView, NoteView, event, May, place, glances}
use Rattle.fn_table.specs.Seen as seen

-- what a seat knows at this table
abbrev pub Known : Type 0
Known = View Start Event

-- the event that a move is for the first of these passes
abbrev pub taken_by : List ℕ → Move → Event
taken_by [] step = event 0 step
taken_by (p ∷ ps) step = event p step

-- the pass of a seat
abbrev pub shown : TableId → ℕ → Known → PassView
shown z n v = record { table = z; number = n; seen = record { start = v.start; log = log_of v.parts } }

-- the seat keeps this number and no other
pub record HasOne (n : ℕ) (v : Known) : Type 0 where
  pub parts : v.parts ≡ part (n ∷ []) (log_of v.parts) ∷ []

-- For a pass that may take it, the step makes f of the number found: after every legal log in which the pass is where it is here
pub record IsStep (p : PassView) (step : Move) (f : ℕ → ℕ) : Type 0 where
  pub change : May p step → (log : List Event) → IsLegal funnel p.seen.start log → own_of funnel p.seen.start log p.number ≡ seen.own_of p
      → f (found funnel p.seen.start log (event p.number step)) ≡ change p.seen.start (seen.own_of p) p.number step (found funnel p.seen.start log (event p.number step))

-- the pass is one of the table, and its step is on this word, which the table has
pub record IsHere (z : TableId) (word : ℕ) (p : PassView) (step : Move) : Type 0 where
  pub table : p.table ≡ z
  pub inside : word < z.words
  pub place : word ≡ place p step

-- what the seat of a note knows
abbrev pub shown_note : TableId → Known → NoteView
shown_note z v = record { table = z; seen = record { start = v.start; log = log_of v.parts } }

-- the seat keeps no number, and has one log
pub record HasNone (v : Known) : Type 0 where
  pub parts : v.parts ≡ part [] (log_of v.parts) ∷ []

-- what the seat of a book knows
abbrev pub shown_book : Known → CoreLog
shown_book v = record { start = v.start; log = log_of v.parts }

-- the seat that deals the passes out keeps 0 and the numbers from this one on, and has taken some Glances
pub record IsDealer (z : TableId) (start : Start) (number taken : ℕ) (s : Seat (Unit {0}) Known) : Type 0 where
  pub table : s.table_id ≡ z
  pub knows : s.me ≡ (knows start (0 ∷ numbers_from number (start.shape.passes - number)) (glances taken), [])
  pub opens : IsStart start

-- the pass as a part of what a seat knows
abbrev pub part_of : PassView → Part Event
part_of p = part (p.number ∷ []) p.seen.log

-- the seat that gathers passes knows what they do
pub record IsGathering (z : TableId) (start : Start) (passes : List PassView) (s : Seat (Unit {0}) Known) : Type 0 where
  pub table : s.table_id ≡ z
  pub opened : s.me.0.start ≡ start
  pub parts : s.me.0.parts ≡ part [] (log_of s.me.0.parts) ∷ map part_of passes
  pub empty : s.me.1 ≡ []

-- the start that a seat names which has ended
abbrev pub nowhere : Start
nowhere =
    record {
      shape = record {
        passes = 1;
        leaves = 1;
        levels = 1;
        rows = 1;
        passes_in_range = (lit≤ tt, lit≤ tt);
        leaves_in_range = (lit≤ tt, lit≤ tt, lit≤ tt);
        levels_in_range = (lit≤ tt, lit≤ tt);
        rows_in_range = (lit≤ tt, lit≤ tt);
      };
      opening = 0;
      cap = 0;
      allowances = [];
    }
