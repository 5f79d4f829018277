-- The value of an aggregator, and the state of the machine that it stands for.
use Rattle.std.specs.Prelude.{◌≡◌, ◌≢◌, ℕ, ◌*◌, ◌^◌, ◌<◌, ◌≤◌, List, length, get_or, Option, Some, None}
use Rattle.fn_rows.specs.Machine.{Stage, Out, Shut, Based, Headed, FilledLo, FilledBase, Filled, Pointed, At, Over, Hit, Field, Lo, Base, Prev, State, Step, Allowed, AllAllowed, after, start, Lets}
use Rattle.fn_rows.specs.Trace.{nothing, run}
use Rattle.fn_rows.specs.Found.{found_in}

-- how many members and rows there are, the words, the ends of the rows, where members stand, and what they found of each other
pub record Aggregator : Type 0 where
  pub members : ℕ
  pub rows : ℕ
  pub total : ℕ
  pub done : ℕ
  pub last : ℕ
  pub announced : List ℕ
  pub lo : List ℕ
  pub base : List ℕ
  pub prev : List ℕ
  pub end : List ℕ
  pub stage : List Stage
  pub found : List (Option ℕ)

-- a list as a function, which is the default past its end
abbrev pub at_or : {A : Type 0} → A → List A → ℕ → A
at_or default xs i = get_or xs i default

-- the state that a value stands for
abbrev pub state_of : Aggregator → State
state_of a =
    record {
      total = a.total;
      done = a.done;
      last = a.last;
      announced = at_or 0 a.announced;
      lo = at_or 0 a.lo;
      base = at_or 0 a.base;
      prev = at_or 0 a.prev;
      end = at_or 0 a.end;
      stage = at_or Out a.stage;
      found = found_in a.members a.found;
    }

-- the step may be taken
abbrev pub May : Aggregator → Step → Type 0
May a step = Allowed a.members a.rows (state_of a) step

-- the new value is the old one after the step
pub record Steps (old new : Aggregator) (step : Step) : Type 0 where
  pub state : state_of new ≡ after (state_of old) step
  pub members : new.members ≡ old.members
  pub rows : new.rows ≡ old.rows

-- nothing has happened yet
pub record Starts (a : Aggregator) (m r : ℕ) : Type 0 where
  pub state : state_of a ≡ start
  pub members : a.members ≡ m
  pub rows : a.rows ≡ r

-- there is a word for each member and each row
pub record IsSized (a : Aggregator) : Type 0 where
  pub announced : length a.announced ≡ a.members
  pub found : length a.found ≡ a.members * a.members
  pub stage : length a.stage ≡ a.members
  pub lo : length a.lo ≡ a.members * a.rows
  pub base : length a.base ≡ a.members * a.rows
  pub prev : length a.prev ≡ a.members * a.rows
  pub end : length a.end ≡ a.members * a.rows

-- the value is one that allowed steps reach from the start
pub record IsReached (a : Aggregator) : Type 0 where
  pub sized : IsSized a
  pub some_member : 1 ≤ a.members
  pub few_members : a.members ≤ 64
  pub some_row : 1 ≤ a.rows
  pub few_rows : a.rows ≤ 8
  pub small : a.total < 2 ^ 63
  pub steps : List Step
  pub allowed : AllAllowed a.members a.rows steps start
  pub state : (run steps nothing).state ≡ state_of a

-- a word of a row
abbrev pub word_of : State → ℕ → Field → ℕ
word_of s r Lo = s.lo r
word_of s r Base = s.base r
word_of s r Prev = s.prev r

-- the end of the batch that a leading member has closed
abbrev pub end_held : Stage → Option ℕ
end_held (Shut at hi) = Some hi
end_held (Based at hi b) = Some hi
end_held (Headed at hi b h) = Some hi
end_held (FilledLo at hi b h r) = Some hi
end_held (FilledBase at hi b h r) = Some hi
end_held (Filled at hi b r) = Some hi
end_held (Pointed at hi b r) = Some hi
end_held _ = None

-- the row in hand of a late member, and the word of it that the member loads next
abbrev pub asked : Stage → Option (ℕ × Field)
asked (At at r) = Some (r, Lo)
asked (Over at r) = Some (r, Prev)
asked (Hit at r lo) = Some (r, Base)
asked _ = None

-- the member's last scan of the other found an announcement that lets a row with this end be filled
abbrev pub HasLet : Aggregator → ℕ → ℕ → ℕ → Type 0
HasLet a m q end = (word : ℕ) × ((state_of a).found m q ≡ Some word) × Lets word end

-- so did its scans of each other member
abbrev pub AllLet : Aggregator → ℕ → ℕ → Type 0
AllLet a m end = (q : ℕ) → q < a.members → q ≢ m → HasLet a m q end
