-- What holds after every legal log of the cells.
--     puts, takes      the items that were put under a ticket, and how often it was taken
--     ExactLogsAreLegal      its legal logs are logs that the table may run
--     EntriesFind, BeginningsAreExact      what each entry says, and how legal logs begin
--     TicketsStandOnce, TakesFollowPuts, PutsAndTakesStay, EntriesStandAlone      how often a ticket is put and taken, and what is taken
--     OneSeatHolds      who holds a turn
use Rattle.std.specs.Prelude.{◌≡◌, ℕ, ◌+◌, ◌*◌, ◌/◌, ◌%◌, ◌<◌, ◌≤◌, ◌==◌, if◌then◌else◌, List, [], ◌∷◌, ◌++◌, Option, Some, None}
use mathlib.Core.Option as maybe
use mathlib.Core.Option.{none, some}
use Rattle.running.specs.Machine.{IsLegal, state_of}
use Rattle.tq_cells.specs.declared.entry.Start.{Start}
use Rattle.tq_cells.specs.declared.entry.Entry.{Entry}
use Rattle.tq_cells.specs.declared.entry.Entry.TheVariants.{Put, Take}
use Rattle.tq_cells.specs.declared.entry.Event.{Event}
use Rattle.tq_cells.specs.Machine.{State, cell, May, Finds, cells, exact}

module _ {T : Type 0} where
  -- what an entry puts under the ticket
  abbrev pub put_by : ℕ → Entry T → List T
  put_by ticket (Put t x) = if t == ticket then x ∷ [] else []
  put_by ticket _ = []

  -- how often an entry takes the ticket
  abbrev pub taken_by : ℕ → Entry T → ℕ
  taken_by ticket (Take t) = if t == ticket then 1 else 0
  taken_by ticket _ = 0

  -- the items put under a ticket, in order
  abbrev pub puts : ℕ → List (Event T) → List T
  puts ticket [] = []
  puts ticket (event ∷ log) = put_by ticket event.entry ++ puts ticket log

  -- how often it was taken
  abbrev pub takes : ℕ → List (Event T) → ℕ
  takes ticket [] = 0
  takes ticket (event ∷ log) = taken_by ticket event.entry + takes ticket log

  -- the log is legal, and each entry in it says what it found
  abbrev pub IsExact : Start → List (Event T) → Type 0
  IsExact start log = IsLegal (exact T) start log

  -- the state after a log
  abbrev pub state : Start → List (Event T) → State T
  state start log = state_of (cells T) start log

  -- the turn word of a ticket's cell
  abbrev pub turn : Start → List (Event T) → ℕ → ℕ
  turn start log ticket = (state start log).turns (ticket % start.capacity)

  -- How often a ticket was put and taken, by the word of its cell: from 4t + 2 on it was put once, from 4t + 3 on it was taken once. At 4t the slot is empty, at 4t + 2 it has the item that was put, and at the odd words between it is with the seat that holds the turn
  pub record Stands (ticket word : ℕ) (slot : maybe.Option (Option T)) (items : List T) (count : ℕ) : Type 0 where
    pub unput : word < 4 * ticket + 2 → items ≡ []
    pub put : 4 * ticket + 2 ≤ word → (x : T) × (items ≡ x ∷ [])
    pub untaken : word < 4 * ticket + 3 → count ≡ 0
    pub taken : 4 * ticket + 3 ≤ word → count ≡ 1
    pub empty : word ≡ 4 * ticket → slot ≡ some None
    pub putting : word ≡ 4 * ticket + 1 → slot ≡ none
    pub taking : word ≡ 4 * ticket + 3 → slot ≡ none
    pub full : word ≡ 4 * ticket + 2 → (x : T) × (items ≡ x ∷ []) × (slot ≡ some (Some x))

  -- the turns that seats hold are odd words; each is the word of its cell, one seat holds it, and none is left without a seat
  pub record HasHolders (start : Start) (s : State T) : Type 0 where
    pub odd : (seat n : ℕ) → s.holds seat ≡ Some n → n % 2 ≡ 1
    pub word : (seat n : ℕ) → s.holds seat ≡ Some n → s.turns (n / 4 % start.capacity) ≡ n
    pub alone : (seat other n : ℕ) → s.holds seat ≡ Some n → s.holds other ≡ Some n → seat ≡ other
    pub holder : (n : ℕ) → n % 2 ≡ 1 → s.turns (n / 4 % start.capacity) ≡ n → (seat : ℕ) × (s.holds seat ≡ Some n)

module _ (T : Type 0) where
  -- the legal logs of the cells are logs that the table may run
  abbrev pub ExactLogsAreLegal : Type 0
  ExactLogsAreLegal = (start : Start) (log : List (Event T)) → IsExact start log → IsLegal (cells T) start log

  -- each entry in a legal log is of one of the seats, which holds the turn that the entry needs, and says what it found
  abbrev pub EntriesFind : Type 0
  EntriesFind = (start : Start) (log more : List (Event T)) (event : Event T) → IsExact start (log ++ event ∷ more)
      → May start ((state start log).holds event.seat) event × Finds event.entry ((state start log).turns (cell start event.entry))

  -- a beginning of a legal log is legal
  abbrev pub BeginningsAreExact : Type 0
  BeginningsAreExact = (start : Start) (log more : List (Event T)) → IsExact start (log ++ more) → IsExact start log

  -- no ticket is put twice or taken twice, and its cell's turn word says which has happened
  abbrev pub TicketsStandOnce : Type 0
  TicketsStandOnce = (start : Start) (log : List (Event T)) (ticket : ℕ) → IsExact start log
      → Stands ticket (turn start log ticket) ((state start log).slots (ticket % start.capacity)) (puts ticket log) (takes ticket log)

  -- a ticket is taken after it was put, once, and the item in its slot is the one that was put
  abbrev pub TakesFollowPuts : Type 0
  TakesFollowPuts = (start : Start) (log more : List (Event T)) (seat ticket : ℕ) → IsExact start (log ++ record { seat = seat; entry = Take ticket } ∷ more)
      → (takes ticket log ≡ 0) × ((x : T) × (puts ticket log ≡ x ∷ []) × ((state start log).slots (ticket % start.capacity) ≡ some (Some x)))

  -- what was put under a ticket stays the one item that was put there, and a ticket that was taken stays taken once
  abbrev pub PutsAndTakesStay : Type 0
  PutsAndTakesStay = (start : Start) (log more : List (Event T)) (ticket : ℕ) → IsExact start (log ++ more)
      → ((x : T) → puts ticket log ≡ x ∷ [] → puts ticket (log ++ more) ≡ x ∷ []) × (takes ticket log ≡ 1 → takes ticket (log ++ more) ≡ 1)

  -- a Put of a ticket is its only one, and so is a Take
  abbrev pub EntriesStandAlone : Type 0
  EntriesStandAlone = (start : Start) (log more : List (Event T)) (seat ticket : ℕ)
      → ((x : T) → let put : Event T = record { seat = seat; entry = Put ticket x } in IsExact start (log ++ put ∷ more) → puts ticket (log ++ put ∷ more) ≡ x ∷ [])
      × (let take : Event T = record { seat = seat; entry = Take ticket } in IsExact start (log ++ take ∷ more) → takes ticket (log ++ take ∷ more) ≡ 1)

  -- at an odd turn word exactly one seat holds the turn
  abbrev pub OneSeatHolds : Type 0
  OneSeatHolds = (start : Start) (log : List (Event T)) → IsExact start log → HasHolders start (state start log)
