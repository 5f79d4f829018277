-- What a pass's call does next.
--     is_free start s kind level pass n      the pass's n-th row may be filled
--     first_free start s kind level pass      the first of the pass's rows that may be filled
--     next_move start s pass      the next step of the pass's call
use Rattle.std.specs.Prelude.{ℕ, zero, suc, ◌+◌, ◌*◌, ◌%◌, ◌<◌, ◌≤◌, Bool, true, false, ◌&&◌, ◌||◌, ◌==◌, nat_lt, if◌then◌else◌, Option, Some, None}
use Rattle.fn_model.specs.declared.Kind.{Kind}
use Rattle.fn_model.specs.declared.Kind.TheVariants.{Add}
use Rattle.fn_model.specs.Calls.{same_kind}
use Rattle.fn_rows.specs.declared.Field.TheVariants.{Lo, Base, Prev}
use Rattle.fn_rows.specs.declared.Stage.{Stage}
use Rattle.fn_rows.specs.declared.Stage.TheVariants.{Out, Saw, Told, Waiting, Lead, Late, Shut, Based, Headed, FilledLo, FilledBase, Filled, Pointed, At, Over, Hit, Got}
use Rattle.fn_layout.specs.declared.shape.Shape.{Shape}
use Rattle.fn_layout.specs.Words.{row_number}
use Rattle.fn_core.specs.declared.Purpose.TheVariants.{Try}
use Rattle.fn_core.specs.declared.Move.{Move}
use Rattle.fn_core.specs.declared.Move.TheVariants.{See, Announce, Arrive, Look, Close, Apply, Head, Fill, Point, Publish, Peek, Leave, Load, Exchange, Glance}
use Rattle.fn_core.specs.Tree.{aggregator, member, members}
use Rattle.fn_core.specs.State.{Start, Position, Climbing, Deciding, State, stage}
use Rattle.fn_core.specs.Machine.{no_cap, place, weight_of}
use Rattle.fn_core.specs.Words.{row_there}

-- whether an announcement was found that lets a row with this end be filled again
abbrev pub lets : Option ℕ → ℕ → Bool
lets None end = false
lets (Some word) end = (word == 0) || nat_lt end word

-- whether the test holds of each number below n
unfoldable pub all_below : (ℕ → Bool) → ℕ → Bool
all_below test zero = true
all_below test (suc n) = test n && all_below test n

-- the first number below n of which the test holds, or n
unfoldable pub first_below : (ℕ → Bool) → ℕ → ℕ
first_below test zero = 0
first_below test (suc n) = if test 0 then 0 else suc (first_below (λ k. test (suc k)) n)

-- n is the first number below a count of which it holds, or the count
abbrev pub IsFirst : (ℕ → Type 0) → ℕ → ℕ → Type 0
IsFirst Holds count n = (n ≤ count) × ((k : ℕ) → k < n → Holds k → ⊥) × (n < count → Holds n)

-- whether the pass's n-th row may be filled: it never was, or what the pass found of each other member lets it be filled again
abbrev pub is_free : Start → State → Kind → ℕ → ℕ → ℕ → Bool
is_free start s kind level pass n =
    let m = member start.shape level pass in
    let t = place start s kind level pass in
    let end = t.end (m * start.shape.rows + n) in
    (end == 0) || all_below (λ q. (q == m) || lets (t.found m q) end) (members start.shape level (aggregator start.shape pass level))

-- the first of the pass's rows that may be filled, or how many rows it has
abbrev pub first_free : Start → State → Kind → ℕ → ℕ → ℕ
first_free start s kind level pass = first_below (is_free start s kind level pass) start.shape.rows

-- the pass's row that has this number at its aggregator, by its number in the layout
abbrev pub own_row : Shape → ℕ → Kind → ℕ → ℕ → ℕ
own_row shape pass kind level row = row_number shape pass kind level (row % shape.rows)

-- the weight of the batch that the pass has closed one level below
abbrev pub weight_below : Start → State → ℕ → Kind → ℕ → ℕ
weight_below start s pass kind zero = 0
weight_below start s pass kind (suc below) = weight_of start s pass kind below

-- a batch that was closed at the top enters the main word
abbrev pub enters_main : Start → State → ℕ → Kind → ℕ → Move
enters_main start s pass kind level = if same_kind kind Add && (start.cap == no_cap) then Apply (weight_of start s pass kind level) else Load Try

-- a batch that was closed goes up one level
abbrev pub goes_up : Start → State → ℕ → Kind → ℕ → Move
goes_up start s pass kind level = if level == start.shape.levels then enters_main start s pass kind level else See kind (suc level)

-- the next step of a call that fills a row, or has one in hand
abbrev pub next_on_row : Start → State → ℕ → Kind → ℕ → Stage → Move
next_on_row start s pass kind level (Headed at hi b h) = Fill (row_number start.shape pass kind level (first_free start s kind level pass)) Lo
next_on_row start s pass kind level (FilledLo at hi b h r) = Fill (own_row start.shape pass kind level r) Base
next_on_row start s pass kind level (FilledBase at hi b h r) = Fill (own_row start.shape pass kind level r) Prev
next_on_row start s pass kind level (Filled at hi b r) = Point kind level (own_row start.shape pass kind level r)
next_on_row start s pass kind level (At at r) = Peek (row_there start.shape kind level (aggregator start.shape pass level) r) Lo
next_on_row start s pass kind level (Over at r) = Peek (row_there start.shape kind level (aggregator start.shape pass level) r) Prev
next_on_row start s pass kind level (Hit at r lo) = Peek (row_there start.shape kind level (aggregator start.shape pass level) r) Base
next_on_row start s pass kind level _ = Glance

-- the next step of a call that has climbed to this level and stands there so
abbrev pub next_at : Start → State → ℕ → Kind → ℕ → Stage → Move
next_at start s pass kind level Out = Glance
next_at start s pass kind level (Saw seen) = Announce kind level
next_at start s pass kind level (Told seen) = Arrive kind level (weight_below start s pass kind level)
next_at start s pass kind level (Waiting at) = Look kind level
next_at start s pass kind level (Lead at) = Close kind level
next_at start s pass kind level (Late at) = Head kind level
next_at start s pass kind level (Shut at hi) = goes_up start s pass kind level
next_at start s pass kind level (Based at hi b) = Head kind level
next_at start s pass kind level (Pointed at hi b r) = Publish kind level
next_at start s pass kind level (Got base ahead) = Leave kind level
next_at start s pass kind level stage = next_on_row start s pass kind level stage

-- .. of a pass in this position
abbrev pub next_by : Start → State → ℕ → Position → Move
next_by start s pass (Climbing kind level) = next_at start s pass kind level (stage start s kind level pass)
next_by start s pass (Deciding kind level word) = Exchange kind (weight_of start s pass kind level)
next_by start s pass _ = Glance

-- the next step of the pass's call; the first arrival of a call is its caller's to weigh
abbrev pub next_move : Start → State → ℕ → Move
next_move start s pass = next_by start s pass (s.callers pass).position
