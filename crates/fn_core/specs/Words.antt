-- The words of a state, and the word of each event.
--     word start s name      the word of this name
--     words_of start s      all the words, by number
--     Own, own start s pass      what a pass's own guards may read of a state
--     name_of shape event, change start own event n      the name of the word that an event steps on, and what it makes of the number found there
use Rattle.std.specs.Prelude.{◌≡◌, ◌≢◌, ◌⊎◌, ℕ, zero, suc, ◌+◌, ◌*◌, ◌/◌, ◌%◌, ◌<◌, ◌≤◌, ◌==◌, List, [], ◌∷◌, Option, if◌then◌else◌, slice_index, slice_set}
use Rattle.fn_model.specs.declared.Kind.{Kind}
use Rattle.fn_model.specs.Integer.{after}
use Rattle.fn_rows.specs.declared.Field.{Field}
use Rattle.fn_rows.specs.declared.Field.TheVariants.{Lo, Base, Prev}
use Rattle.fn_rows.specs.declared.Stage.{Stage}
use Rattle.fn_rows.specs.declared.Stage.TheVariants.{Saw, Pointed}
use Rattle.fn_rows.specs.Machine as rows
use Rattle.fn_layout.specs.declared.shape.Shape.{Shape}
use Rattle.fn_layout.specs.Kinds.{IsFunnelled}
use Rattle.fn_layout.specs.Tree.{aggregator, member, members, pass_of, IsLevel}
use Rattle.fn_layout.specs.Words.{Name, Main, Value, Last, Done, Announcement, RowWord, number, words, row_number, read, row_name}
use Rattle.fn_core.specs.declared.Move.{Move}
use Rattle.fn_core.specs.declared.Move.TheVariants.{Scan, See, Announce, Arrive, Look, Close, Apply, Head, Fill, Point, Publish, Peek, Leave, Load, Exchange, Direct, Glance}
use Rattle.fn_core.specs.State.{Start, Position, Trying, Climbing, Deciding, Caller, State, stage}
use Rattle.fn_core.specs.Machine.{place, word_of, moves}

-- the number of the row that has this number at its aggregator
abbrev pub row_there : Shape → Kind → ℕ → ℕ → ℕ → ℕ
row_there shape kind level index row = row_number shape (pass_of shape level index (row / shape.rows)) kind level (row % shape.rows)

-- the word that names a row: 0 for none, or the row's number plus 1
abbrev pub link : Shape → Kind → ℕ → ℕ → ℕ → ℕ
link shape kind level index zero = 0
link shape kind level index (suc row) = suc (row_there shape kind level index row)

-- what the table has for a field of a row: the words that name rows name them by their numbers in the layout
abbrev pub told_field : Shape → Kind → ℕ → ℕ → Field → ℕ → ℕ
told_field shape kind level index Lo n = n
told_field shape kind level index Base n = n
told_field shape kind level index Prev n = link shape kind level index n

-- the word names no row, or one of a member, by its number at the aggregator
abbrev pub NamesMine : Shape → ℕ → ℕ → ℕ → Type 0
NamesMine shape level index word = (word ≡ 0) ⊎ ((r : ℕ) × (word ≡ suc r) × (r / shape.rows < members shape level index))

-- a word of a row with this number at its aggregator
abbrev pub row_word : Shape → Kind → ℕ → ℕ → rows.State → ℕ → Field → ℕ
row_word shape kind level index t row Lo = t.lo row
row_word shape kind level index t row Base = t.base row
row_word shape kind level index t row Prev = link shape kind level index (t.prev row)

-- the word of this name
abbrev pub word : Start → State → Name → ℕ
word start s Main = s.main
word start s (Value kind level index) = (s.rows kind level index).total
word start s (Last kind level index) = link start.shape kind level index (s.rows kind level index).last
word start s (Done kind level index) = (s.rows kind level index).done
word start s (Announcement pass kind level) = (place start s kind level pass).announced (member start.shape level pass)
word start s (RowWord pass kind level row field) =
    row_word start.shape kind level (aggregator start.shape pass level) (place start s kind level pass).state (member start.shape level pass * start.shape.rows + row) field

-- the list of f 0, f 1 and so on, n of them
unfoldable pub list_of : (ℕ → ℕ) → ℕ → List ℕ
list_of f zero = []
list_of f (suc n) = f 0 ∷ list_of (λ k. f (suc k)) n

-- all the words, by number
abbrev pub words_of : Start → State → List ℕ
words_of start s = list_of (λ n. word start s (read start.shape n)) (words start.shape)

-- what a pass's own guards may read: where it stands and what it has left, its stages, what its scans found, and the ends of its own rows
pub record Own : Type 0 where
  pub caller : Caller
  pub stages : Kind → ℕ → Stage
  pub found : Kind → ℕ → ℕ → Option ℕ
  pub ends : Kind → ℕ → ℕ → ℕ

-- a pass's own in a state
abbrev pub own : Start → State → ℕ → Own
own start s pass =
    record {
      caller = s.callers pass;
      stages = λ kind level. stage start s kind level pass;
      found = λ kind level other. (place start s kind level pass).found (member start.shape level pass) other;
      ends = λ kind level row. (place start s kind level pass).end (member start.shape level pass * start.shape.rows + row % start.shape.rows);
    }

-- the name of the word that a pass's step is on
abbrev pub name_of : Shape → ℕ → Move → Name
name_of shape pass (Scan kind level other) = Announcement other kind level
name_of shape pass (See kind level) = Done kind level (aggregator shape pass level)
name_of shape pass (Announce kind level) = Announcement pass kind level
name_of shape pass (Arrive kind level weight) = Value kind level (aggregator shape pass level)
name_of shape pass (Look kind level) = Done kind level (aggregator shape pass level)
name_of shape pass (Close kind level) = Value kind level (aggregator shape pass level)
name_of shape pass (Apply weight) = Main
name_of shape pass (Head kind level) = Last kind level (aggregator shape pass level)
name_of shape pass (Fill row field) = row_name shape row field
name_of shape pass (Point kind level row) = Last kind level (aggregator shape pass level)
name_of shape pass (Publish kind level) = Done kind level (aggregator shape pass level)
name_of shape pass (Peek row field) = row_name shape row field
name_of shape pass (Leave kind level) = Announcement pass kind level
name_of shape pass (Load purpose) = Main
name_of shape pass (Exchange kind amount) = Main
name_of shape pass (Direct amount) = Main
name_of shape pass Glance = Main

-- what a pass announces that has seen a number
abbrev pub announced_by : Stage → ℕ
announced_by (Saw seen) = suc seen
announced_by _ = 0

-- the end that a pass publishes
abbrev pub end_by : Stage → ℕ
end_by (Pointed at hi b r) = hi
end_by _ = 0

-- what a pass stores in a field of its row
abbrev pub filled_word : Shape → Kind → ℕ → ℕ → Field → Stage → ℕ
filled_word shape kind level index Lo stage = word_of Lo stage
filled_word shape kind level index Base stage = word_of Base stage
filled_word shape kind level index Prev stage = link shape kind level index (word_of Prev stage)

-- what a pass in this position stores in a field of this row
abbrev pub fill_word : Start → Own → ℕ → Field → Position → ℕ
fill_word start o pass field (Climbing kind level) = filled_word start.shape kind level (aggregator start.shape pass level) field (o.stages kind level)
fill_word start o pass field _ = 0

-- what a compare-exchange leaves
abbrev pub exchanged : Start → Kind → ℕ → Position → ℕ → ℕ
exchanged start kind amount (Trying loaded) n = if n == loaded then after start.cap loaded kind amount else n
exchanged start kind amount (Deciding k level loaded) n = if n == loaded then after start.cap loaded k amount else n
exchanged start kind amount _ n = n

-- what a pass's step makes of the number n found in its word
abbrev pub change : Start → Own → ℕ → Move → ℕ → ℕ
change start o pass (Announce kind level) n = announced_by (o.stages kind level)
change start o pass (Arrive kind level weight) n = n + weight
change start o pass (Apply weight) n = n + weight
change start o pass (Fill row field) n = fill_word start o pass field o.caller.position
change start o pass (Point kind level row) n = suc row
change start o pass (Publish kind level) n = end_by (o.stages kind level)
change start o pass (Leave kind level) n = 0
change start o pass (Exchange kind amount) n = exchanged start kind amount o.caller.position n
change start o pass (Direct amount) n = n + amount
change start o pass _ n = n

-- the pass's step changes the words in its one word alone, to what it makes of the number found there
abbrev pub ChangesOneWord : Start → State → ℕ → Move → Type 0
ChangesOneWord start s pass step =
    let at = number start.shape (name_of start.shape pass step) in
    words_of start (moves start s pass step) ≡ slice_set (words_of start s) at (change start (own start s pass) pass step (slice_index (words_of start s) at))

-- a call stands at a level of the shape and goes through aggregators
abbrev pub IsPlaced : Shape → Position → Type 0
IsPlaced shape (Climbing kind level) = IsFunnelled kind × IsLevel shape level
IsPlaced shape (Deciding kind level loaded) = IsFunnelled kind × IsLevel shape level
IsPlaced shape _ = Unit {0}

-- an addition to the main word stays within the cap
abbrev pub IsWithin : Start → State → Move → Type 0
IsWithin start s (Apply weight) = s.main + weight ≤ start.cap
IsWithin start s (Direct amount) = s.main + amount ≤ start.cap
IsWithin start s _ = Unit {0}

-- the pass's step leaves what the other passes' guards read
abbrev pub LeavesOthers : Start → ℕ → State → State → Type 0
LeavesOthers start pass s t = (q : ℕ) → q ≢ pass → own start t q ≡ own start s q
