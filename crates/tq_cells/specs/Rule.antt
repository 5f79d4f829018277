-- The rule of the table of cells, and what each step on it tells.
--     Rule      what holds between any two steps
--     Told entry v w      the seat made the entry, and what it has seen
--     Rests, IsSeat      a seat with its one number and the turn that it holds
--     held_turn, gave_item, took_turn, gave_turn      what each kind of step tells
use Rattle.std.specs.Prelude.{◌≡◌, ◌≢◌, ℕ, ◌-◌, ◌/◌, ◌<◌, List, [], ◌∷◌, ◌++◌, length, Option, Some, None}
use mathlib.Core.Option.{some}
use lib.ListN.{get_elem?}
use Rattle.atomic_table.specs.Table as table
use Rattle.atomic_table.specs.Table.{Me, Step, rest}
use Rattle.running.specs.declared.View.{View}
use Rattle.running.specs.Running.{part, numbers_of, log_of, Each, knows, Fits, Running}
use Rattle.tq_cells.specs.declared.entry.Start.{Start}
use Rattle.tq_cells.specs.declared.entry.Entry.{Entry}
use Rattle.tq_cells.specs.declared.entry.Entry.TheVariants.{Hold, Put, Take, Free, Miss}
use Rattle.tq_cells.specs.declared.entry.Event.{Event}
use Rattle.tq_cells.specs.Machine.{cells}
use Rattle.tq_cells.specs.Laws.{IsExact, state, puts}

-- what a seat knows
abbrev pub Known : Type 0 → Type 0
Known T = View Start (Event T)

-- a seat, with what it knows and the slots that it has
abbrev pub Seated : Type 0 → Type 0
Seated T = Me (Option T) (Known T)

module _ {T : Type 0} where
  -- the entry as one of the first of these seats
  abbrev pub by_first : List ℕ → Entry T → Event T
  by_first [] entry = record { seat = 0; entry = entry }
  by_first (k ∷ ks) entry = record { seat = k; entry = entry }

  -- Between any two steps the words are those of one legal log, each entry of which says what it found. Each cell has a slot, and those at home have what the log leaves there
  pub record Rule (start : Start) (s : table.State (Option T) (Known T)) : Type 0 where
    pub running : Running (cells T) start s
    pub exact : IsExact start running.log
    pub count : length s.homes ≡ start.capacity
    pub slots : (c : ℕ) → c < start.capacity → get_elem? s.homes c ≡ some ((state start running.log).slots c)

  -- the seat made the entry: it has seen all that had been logged, which its parts fit, and then the entry
  pub record Told (entry : Entry T) (v w : Known T) : Type 0 where
    pub before : List (Event T)
    pub now : w ≡ knows v.start (numbers_of v.parts) (before ++ by_first (numbers_of v.parts) entry ∷ [])
    pub parts : Each (Fits (cells T) before) v.parts
    pub exact : IsExact v.start (before ++ by_first (numbers_of v.parts) entry ∷ [])

  -- the seat of this number, after this legal log, holds this turn
  pub record Rests (start : Start) (number : ℕ) (turn : Option ℕ) (log : List (Event T)) : Type 0 where
    pub exact : IsExact start log
    pub own : (state start log).holds number ≡ turn
    pub inside : number < start.seats
    pub some_cell : 0 < start.capacity

  -- the seat keeps this number and no other, and holds this turn
  pub record IsSeat (number : ℕ) (turn : Option ℕ) (v : Known T) : Type 0 where
    pub parts : v.parts ≡ part (number ∷ []) (log_of v.parts) ∷ []
    pub rests : Rests v.start number turn (log_of v.parts)

  -- the exchange found another word
  abbrev pub missed_turn : Step (Option T) → Seated T → ℕ → Seated T → Type 0
  missed_turn step me n after = Told (Miss step.first n) me.0 after.0 × (after.1 ≡ me.1)

  -- a seat took the turn to put, and has the empty slot; or it missed
  abbrev pub held_turn : Step (Option T) → Seated T → ℕ → Seated T → Type 0
  held_turn step me n after = (n ≡ step.first → Told (Hold (step.first / 4)) me.0 after.0 × (after.1 ≡ (step.word, None) ∷ me.1)) × (n ≢ step.first → missed_turn step me n after)

  -- a seat gave back a slot with an item
  abbrev pub gave_item : Step (Option T) → Seated T → ℕ → Seated T → Type 0
  gave_item step me n after = (x : T) × (me.1 ≡ (step.word, Some x) ∷ rest me.1) × Told (Put (step.first / 4) x) me.0 after.0 × (after.1 ≡ rest me.1)

  -- a seat took the turn to take, and has the slot with the item that was put; or it missed
  abbrev pub took_turn : Step (Option T) → Seated T → ℕ → Seated T → Type 0
  took_turn step me n after =
      (n ≡ step.first → (x : T) × Told (Take (step.first / 4)) me.0 after.0 × (after.1 ≡ (step.word, Some x) ∷ me.1) × (puts (step.first / 4) (log_of after.0.parts) ≡ x ∷ [])) × (n ≢ step.first → missed_turn step me n after)

  -- a seat gave back the empty slot
  abbrev pub gave_turn : Step (Option T) → Seated T → ℕ → Seated T → Type 0
  gave_turn step me n after = Told (Free (step.first / 4 - step.slots)) me.0 after.0 × (after.1 ≡ rest me.1)

  -- a seat has seen the whole log, and entered nothing
  pub record Looked (v w : Known T) : Type 0 where
    pub log : List (Event T)
    pub now : w ≡ knows v.start (numbers_of v.parts) log
    pub parts : Each (Fits (cells T) log) v.parts
    pub exact : IsExact v.start log
