-- The cells as a machine of the running rule.
--     State      each cell's turn word and slot, and the turn that each seat holds
--     after      the state after an entry
--     cells      the machine that the table runs: its guards read the turn that a seat holds
--     exact      the same machine, where an entry says what its exchange found; its legal logs are those of the cells
use Rattle.std.specs.Prelude.{◌≡◌, ◌≢◌, ℕ, ◌+◌, ◌*◌, ◌/◌, ◌%◌, ◌<◌, ◌==◌, if◌then◌else◌, map, Option, Some, None}
use mathlib.Core.Option as maybe
use mathlib.Core.Option.{none, some}
use Rattle.running.specs.Machine.{Machine}
use Rattle.running.specs.Running.{upto}
use Rattle.tq_cells.specs.declared.entry.Start.{Start}
use Rattle.tq_cells.specs.declared.entry.Entry.{Entry}
use Rattle.tq_cells.specs.declared.entry.Entry.TheVariants.{Hold, Put, Take, Free, Miss}
use Rattle.tq_cells.specs.declared.entry.Event.{Event}

-- v at k, and f everywhere else
abbrev pub put : {A : Type 0} → (ℕ → A) → ℕ → A → ℕ → A
put f k v i = if i == k then v else f i

pub record State (T : Type 0) : Type 0 where
  -- each cell's turn word
  pub turns : ℕ → ℕ
  -- what is in each cell's slot, but while a seat has the slot
  pub slots : ℕ → maybe.Option (Option T)
  -- the turn that each seat holds, as the word that it left
  pub holds : ℕ → Option ℕ

module _ {T : Type 0} where
  -- cell c begins at 4c with an empty slot, and no seat holds a turn
  abbrev pub first : State T
  first = record { turns = λ c. 4 * c; slots = λ _. some None; holds = λ _. None }

  -- the cell of an entry
  abbrev pub cell : Start → Entry T → ℕ
  cell start (Hold t) = t % start.capacity
  cell start (Put t x) = t % start.capacity
  cell start (Take t) = t % start.capacity
  cell start (Free t) = t % start.capacity
  cell start (Miss expected found) = expected / 4 % start.capacity

  -- the word that an entry leaves where it found n
  abbrev pub turned : Start → Entry T → ℕ → ℕ
  turned start (Hold t) n = 4 * t + 1
  turned start (Put t x) n = 4 * t + 2
  turned start (Take t) n = 4 * t + 3
  turned start (Free t) n = 4 * (t + start.capacity)
  turned start (Miss expected found) n = n

  -- the slot that an entry leaves
  abbrev pub filled : Entry T → maybe.Option (Option T) → maybe.Option (Option T)
  filled (Hold t) slot = none
  filled (Put t x) slot = some (Some x)
  filled (Take t) slot = none
  filled (Free t) slot = some None
  filled (Miss expected found) slot = slot

  -- the turn that the entry's seat then holds
  abbrev pub held : Entry T → Option ℕ
  held (Hold t) = Some (4 * t + 1)
  held (Put t x) = None
  held (Take t) = Some (4 * t + 3)
  held (Free t) = None
  held (Miss expected found) = None

  -- the state after an entry
  abbrev pub after : Start → State T → Event T → State T
  after start s event =
      let c = cell start event.entry in
      record {
        turns = put s.turns c (turned start event.entry (s.turns c));
        slots = put s.slots c (filled event.entry (s.slots c));
        holds = put s.holds event.seat (held event.entry);
      }

  -- the turn that a seat needs for an entry
  abbrev pub needs : Entry T → Option ℕ
  needs (Hold t) = None
  needs (Put t x) = Some (4 * t + 1)
  needs (Take t) = None
  needs (Free t) = Some (4 * t + 3)
  needs (Miss expected found) = None

  -- a seat that holds this turn may make the entry
  abbrev pub May : Start → Option ℕ → Event T → Type 0
  May start turn event = (0 < start.capacity) × (event.seat < start.seats) × (turn ≡ needs event.entry)

  -- the entry says which word it found
  abbrev pub Finds : Entry T → ℕ → Type 0
  Finds (Hold t) n = n ≡ 4 * t
  Finds (Put t x) n = n ≡ 4 * t + 1
  Finds (Take t) n = n ≡ 4 * t + 2
  Finds (Free t) n = n ≡ 4 * t + 3
  Finds (Miss expected found) n = (n ≡ found) × (n ≢ expected)

module _ (T : Type 0) where
  -- the machine that the table runs
  abbrev pub cells : Machine Start (Event T) (State T) (Option ℕ)
  cells = record {
    by = λ event. event.seat;
    first_state = λ start. first;
    own = λ start s seat. s.holds seat;
    Guard = May;
    effect = after;
    words = λ start s. map s.turns (upto start.capacity);
    place = λ start event. cell start event.entry;
    change = λ start turn event n. turned start event.entry n;
  }

  -- the same machine, where each entry says what it found
  abbrev pub exact : Machine Start (Event T) (State T) (State T)
  exact = record {
    by = λ event. event.seat;
    first_state = λ start. first;
    own = λ start s seat. s;
    Guard = λ start s event. May start (s.holds event.seat) event × Finds event.entry (s.turns (cell start event.entry));
    effect = after;
    words = λ start s. map s.turns (upto start.capacity);
    place = λ start event. cell start event.entry;
    change = λ start s event n. turned start event.entry n;
  }
