-- The steps of the machine: what each needs and does.
--     Allowed start s event      the event may happen in this state
--     effect start s event      the state after it
--     Legal start log s, run start log s      each event is allowed in the state that those before leave; the last state
use Rattle.std.specs.Prelude.{◌≡◌, ◌≢◌, ◌⊎◌, ℕ, zero, suc, ◌+◌, ◌-◌, ◌*◌, ◌/◌, ◌%◌, ◌<◌, ◌≤◌, ◌^◌, ⊤, List, [], ◌∷◌, if◌then◌else◌, ◌==◌, sum, length}
use Rattle.fn_model.specs.declared.Kind.{Kind}
use Rattle.fn_model.specs.declared.Kind.TheVariants.{Add, Sub, Read}
use Rattle.fn_model.specs.Arrivals.{Arrival, Own, Batch}
use Rattle.fn_model.specs.Histories.{OwnStep, BatchStep}
use Rattle.fn_rows.specs.declared.Field.{Field}
use Rattle.fn_rows.specs.declared.Field.TheVariants.{Lo, Base, Prev}
use Rattle.fn_rows.specs.declared.Stage.{Stage}
use Rattle.fn_rows.specs.declared.Stage.TheVariants.{Shut, Headed, FilledLo, FilledBase, Filled, At, Over, Hit}
use Rattle.fn_rows.specs.Machine.{Step, IsFree, Guard}
use Rattle.fn_rows.specs.Machine as local_step
use Rattle.fn_rows.specs.Trace.{Traced}
use Rattle.fn_layout.specs.declared.shape.Shape.{Shape}
use Rattle.fn_core.specs.declared.Purpose.TheVariants as purpose
use Rattle.fn_core.specs.declared.Move.{Move}
use Rattle.fn_core.specs.declared.Move.TheVariants.{Scan, See, Announce, Arrive, Look, Close, Apply, Head, Fill, Point, Publish, Peek, Leave, Load, Exchange, Direct, Glance}
use Rattle.fn_core.specs.declared.Event.{Event}
use Rattle.fn_layout.specs.Words.{row_number}
use Rattle.fn_core.specs.Tree.{aggregator, member, members, IsShape}
use Rattle.fn_core.specs.State.{Start, Position, Resting, Trying, Climbing, Deciding, State, stage, local, goes_to, spends, receives, enters, next_call, lo_of, hi_of, reply_of}

-- the kinds that have aggregators
abbrev pub IsChange : Kind → Type 0
IsChange kind = (kind ≡ Add) ⊎ (kind ≡ Sub)

-- the highest cap, which no addition reaches
abbrev pub no_cap : ℕ
no_cap = 9223372036854775807

-- the row is the pass's n-th of this kind and level, by the numbers of the layout
abbrev pub IsRow : Shape → ℕ → Kind → ℕ → ℕ → ℕ → Type 0
IsRow shape pass kind level row n = (n < shape.rows) × (row ≡ row_number shape pass kind level n)

-- the number at its aggregator of a pass's row
abbrev pub local_row : Shape → ℕ → ℕ → ℕ → ℕ
local_row shape level pass row = member shape level pass * shape.rows + row % shape.rows

-- the row is the one with this number at the aggregator
abbrev pub Names : Shape → Kind → ℕ → ℕ → ℕ → ℕ → Type 0
Names shape kind level index row number = (pass n : ℕ) × (aggregator shape pass level ≡ index) × IsRow shape pass kind level row n × (number ≡ local_row shape level pass row)

-- the pass's aggregator of this kind and level
abbrev pub place : Start → State → Kind → ℕ → ℕ → Traced
place start s kind level pass = s.rows kind level (aggregator start.shape pass level)

-- the step is one that the pass may take at its aggregator
abbrev pub MayTake : Start → State → Kind → ℕ → ℕ → (ℕ → Step) → Type 0
MayTake start s kind level pass step =
    Guard (members start.shape level (aggregator start.shape pass level)) start.shape.rows (place start s kind level pass).state (step (member start.shape level pass))

-- the pass's call stands at this level and takes this step there
abbrev pub Climbs : Start → State → ℕ → Kind → ℕ → (ℕ → Step) → Type 0
Climbs start s pass kind level step = ((s.callers pass).position ≡ Climbing kind level) × MayTake start s kind level pass step

-- some row of the pass is free at its aggregator of this kind and level
abbrev pub HasFreeRow : Start → State → Kind → ℕ → ℕ → Type 0
HasFreeRow start s kind level pass =
    let m = member start.shape level pass in
    (r : ℕ) × (r / start.shape.rows ≡ m) × IsFree (members start.shape level (aggregator start.shape pass level)) (place start s kind level pass).state m r

-- an amount that a call of the pass may have
abbrev pub MaySpend : State → ℕ → ℕ → Type 0
MaySpend s pass amount = (1 ≤ amount) × (amount ≤ (s.callers pass).left)

-- the pass has closed its batch at this level
abbrev pub HasClosed : Start → State → ℕ → Kind → ℕ → Type 0
HasClosed start s pass kind level = (at hi : ℕ) × (stage start s kind level pass ≡ Shut at hi)

-- the weight of the batch that the pass has closed at this level
abbrev pub weight_of : Start → State → ℕ → Kind → ℕ → ℕ
weight_of start s pass kind level = hi_of (stage start s kind level pass) - lo_of (stage start s kind level pass)

-- a call begins at level 1, and goes up once its batch is closed
abbrev pub MaySee : Start → State → ℕ → Kind → ℕ → Type 0
MaySee start s pass kind zero = ⊥
MaySee start s pass kind (suc zero) = ((s.callers pass).position ≡ Resting) × IsChange kind × ((level : ℕ) → 1 ≤ level → level ≤ start.shape.levels → HasFreeRow start s kind level pass)
MaySee start s pass kind (suc (suc below)) = ((s.callers pass).position ≡ Climbing kind (suc below)) × HasClosed start s pass kind (suc below) × (suc (suc below) ≤ start.shape.levels)

-- what arrives: at level 1 the call, above it the batch that was closed one level below
abbrev pub MayArrive : Start → State → ℕ → Kind → ℕ → ℕ → Type 0
MayArrive start s pass kind zero weight = ⊥
MayArrive start s pass kind (suc zero) weight = MaySpend s pass weight
MayArrive start s pass kind (suc (suc below)) weight = weight ≡ weight_of start s pass kind (suc below)

-- the call stands at the top, its batch is closed, and its weight is this
abbrev pub IsAtTop : Start → State → ℕ → Kind → ℕ → Type 0
IsAtTop start s pass kind level = (level ≡ start.shape.levels) × HasClosed start s pass kind level

-- the row in hand has this field as the next to be read
abbrev pub MayPeek : Start → Kind → ℕ → ℕ → Stage → ℕ → Field → Type 0
MayPeek start kind level index (At at r) row Lo = Names start.shape kind level index row r
MayPeek start kind level index (Over at r) row Prev = Names start.shape kind level index row r
MayPeek start kind level index (Hit at r lo) row Base = Names start.shape kind level index row r
MayPeek start kind level index _ row _ = ⊥

-- the row that the call has filled
abbrev pub MayPoint : ℕ → Stage → Type 0
MayPoint number (Filled at hi b r) = number ≡ r
MayPoint number _ = ⊥

-- the word that the next fill of this field stores
abbrev pub word_of : Field → Stage → ℕ
word_of Lo (Headed at hi b h) = at
word_of Base (FilledLo at hi b h r) = b
word_of Prev (FilledBase at hi b h r) = h
word_of _ _ = 0

-- the local step of a fill, by the member that takes it
abbrev pub fills : Start → State → Kind → ℕ → ℕ → ℕ → Field → ℕ → Step
fills start s kind level pass row field m = local_step.Fill m (local_row start.shape level pass row) field (word_of field (stage start s kind level pass))

-- what a step needs of the pass's own position and stages
abbrev pub May : Start → State → ℕ → Move → Type 0
May start s pass (Scan kind level other) = ((s.callers pass).position ≡ Resting) × IsChange kind × (1 ≤ level) × (level ≤ start.shape.levels) × (other < start.shape.passes) × (other ≢ pass) × (aggregator start.shape other level ≡ aggregator start.shape pass level)
May start s pass (See kind level) = MaySee start s pass kind level
May start s pass (Announce kind level) = Climbs start s pass kind level (λ m. local_step.Announce m)
May start s pass (Arrive kind level weight) = Climbs start s pass kind level (λ m. local_step.Arrive m weight) × MayArrive start s pass kind level weight
May start s pass (Look kind level) = Climbs start s pass kind level (λ m. local_step.Look m)
May start s pass (Close kind level) = Climbs start s pass kind level (λ m. local_step.Close m)
May start s pass (Apply weight) = (level : ℕ) × ((s.callers pass).position ≡ Climbing Add level) × IsAtTop start s pass Add level × (start.cap ≡ no_cap) × (weight ≡ weight_of start s pass Add level)
May start s pass (Head kind level) = Climbs start s pass kind level (λ m. local_step.Head m)
May start s pass (Fill row field) = (kind : Kind) × (level n : ℕ) × Climbs start s pass kind level (fills start s kind level pass row field) × IsRow start.shape pass kind level row n
May start s pass (Point kind level row) = Climbs start s pass kind level (λ m. local_step.Point m) × (n : ℕ) × IsRow start.shape pass kind level row n × MayPoint (local_row start.shape level pass row) (stage start s kind level pass)
May start s pass (Publish kind level) = Climbs start s pass kind level (λ m. local_step.Publish m)
May start s pass (Peek row field) = (kind : Kind) × (level : ℕ) × Climbs start s pass kind level (λ m. local_step.Peek m) × MayPeek start kind level (aggregator start.shape pass level) (stage start s kind level pass) row field
May start s pass (Leave kind level) = Climbs start s pass kind level (λ m. local_step.Leave m)
May start s pass (Load purpose.Try) = ((s.callers pass).position ≡ Resting) ⊎ ((kind : Kind) × (level : ℕ) × ((s.callers pass).position ≡ Climbing kind level) × IsAtTop start s pass kind level × ((kind ≡ Add → start.cap < no_cap)))
May start s pass (Load purpose.Read) = (s.callers pass).position ≡ Resting
May start s pass (Exchange kind amount) =
    ((word : ℕ) × ((s.callers pass).position ≡ Trying word) × IsChange kind × MaySpend s pass amount) ⊎
    ((level word : ℕ) × ((s.callers pass).position ≡ Deciding kind level word) × (amount ≡ weight_of start s pass kind level))
May start s pass (Direct amount) = ((s.callers pass).position ≡ Resting) × (start.cap ≡ no_cap) × MaySpend s pass amount
May start s pass Glance = (s.callers pass).position ≡ Resting

-- the event may happen in this state
abbrev pub Allowed : Start → State → Event → Type 0
Allowed start s event = (event.pass < start.shape.passes) × May start s event.pass event.step

-- what arrives at a level
abbrev pub arrival_at : Start → State → ℕ → Kind → ℕ → ℕ → Arrival
arrival_at start s pass kind zero weight = Own (next_call s pass kind weight)
arrival_at start s pass kind (suc below) weight = Batch (aggregator start.shape pass (suc below)) (lo_of (stage start s kind (suc below) pass)) (hi_of (stage start s kind (suc below) pass))

abbrev pub arrives : Start → State → ℕ → Kind → ℕ → ℕ → State
arrives start s pass kind zero weight = s
arrives start s pass kind (suc zero) weight = spends (receives (local start s kind 1 pass (λ m. local_step.Arrive m weight)) kind 1 (aggregator start.shape pass 1) (arrival_at start s pass kind 0 weight)) pass (next_call s pass kind weight)
arrives start s pass kind (suc (suc below)) weight = receives (local start s kind (suc (suc below)) pass (λ m. local_step.Arrive m weight)) kind (suc (suc below)) (aggregator start.shape pass (suc (suc below))) (arrival_at start s pass kind (suc below) weight)

-- the batch that the pass has closed at this level enters the main word, and the word that it meets is its base
abbrev pub applies : Start → State → ℕ → Kind → ℕ → ℕ → State
applies start s pass kind level weight =
    local start (enters start s kind weight (BatchStep kind (aggregator start.shape pass level) (lo_of (stage start s kind level pass)) (hi_of (stage start s kind level pass)))) kind level pass (λ m. local_step.Hand_base m s.main)

-- a call enters the main word by itself
abbrev pub makes : Start → State → ℕ → Kind → ℕ → State
makes start s pass kind amount = spends (enters start s kind amount (OwnStep (next_call s pass kind amount))) pass (next_call s pass kind amount)

abbrev pub applied_by : Start → State → ℕ → ℕ → Position → State
applied_by start s pass weight (Climbing kind level) = applies start s pass kind level weight
applied_by start s pass weight _ = s

abbrev pub filled_by : Start → State → ℕ → ℕ → Field → Position → State
filled_by start s pass row field (Climbing kind level) = local start s kind level pass (fills start s kind level pass row field)
filled_by start s pass row field _ = s

abbrev pub peeked_by : Start → State → ℕ → Position → State
peeked_by start s pass (Climbing kind level) = local start s kind level pass (λ m. local_step.Peek m)
peeked_by start s pass _ = s

-- a call ends, or its pass goes down with the base that it got
abbrev pub leaves : Start → State → ℕ → Kind → ℕ → State
leaves start s pass kind zero = s
leaves start s pass kind (suc zero) = goes_to (local start s kind 1 pass (λ m. local_step.Leave m)) pass Resting
leaves start s pass kind (suc (suc below)) =
    let b = reply_of start.cap kind (stage start s kind (suc (suc below)) pass) in
    goes_to (local start (local start s kind (suc (suc below)) pass (λ m. local_step.Leave m)) kind (suc below) pass (λ m. local_step.Hand_base m b)) pass (Climbing kind (suc below))

abbrev pub loaded_by : State → ℕ → Position → State
loaded_by s pass (Climbing kind level) = goes_to s pass (Deciding kind level s.main)
loaded_by s pass _ = goes_to s pass (Trying s.main)

-- a compare-exchange of the main word wins where the word is the loaded one
abbrev pub exchanged_by : Start → State → ℕ → Kind → ℕ → Position → State
exchanged_by start s pass kind amount (Trying word) =
    if s.main == word then goes_to (makes start s pass kind amount) pass Resting else goes_to s pass Resting
exchanged_by start s pass kind amount (Deciding k level word) =
    if s.main == word then goes_to (applies start s pass k level amount) pass (Climbing k level) else goes_to s pass (Climbing k level)
exchanged_by start s pass kind amount _ = s

-- the state after a step of the pass
abbrev pub moves : Start → State → ℕ → Move → State
moves start s pass (Scan kind level other) = local start s kind level pass (λ m. local_step.Scan m (member start.shape level other))
moves start s pass (See kind level) = goes_to (local start s kind level pass (λ m. local_step.See m)) pass (Climbing kind level)
moves start s pass (Announce kind level) = local start s kind level pass (λ m. local_step.Announce m)
moves start s pass (Arrive kind level weight) = arrives start s pass kind level weight
moves start s pass (Look kind level) = local start s kind level pass (λ m. local_step.Look m)
moves start s pass (Close kind level) = local start s kind level pass (λ m. local_step.Close m)
moves start s pass (Apply weight) = applied_by start s pass weight (s.callers pass).position
moves start s pass (Head kind level) = local start s kind level pass (λ m. local_step.Head m)
moves start s pass (Fill row field) = filled_by start s pass row field (s.callers pass).position
moves start s pass (Point kind level row) = local start s kind level pass (λ m. local_step.Point m)
moves start s pass (Publish kind level) = local start s kind level pass (λ m. local_step.Publish m)
moves start s pass (Peek row field) = peeked_by start s pass (s.callers pass).position
moves start s pass (Leave kind level) = leaves start s pass kind level
moves start s pass (Load purpose.Try) = loaded_by s pass (s.callers pass).position
moves start s pass (Load purpose.Read) = makes start s pass Read 0
moves start s pass (Exchange kind amount) = exchanged_by start s pass kind amount (s.callers pass).position
moves start s pass (Direct amount) = makes start s pass Add amount
moves start s pass Glance = s

-- the state after an event
abbrev pub effect : Start → State → Event → State
effect start s event = moves start s event.pass event.step

-- each event is allowed in the state that those before it leave
abbrev pub Legal : Start → List Event → State → Type 0
Legal start [] s = ⊤
Legal start (event ∷ log) s = Allowed start s event × Legal start log (effect start s event)

-- the state after a log
abbrev pub run : Start → List Event → State → State
run start [] s = s
run start (event ∷ log) s = run start log (effect start s event)

-- a start that may be opened
pub record IsStart (start : Start) : Type 0 where
  pub shape : IsShape start.shape
  pub opening : start.opening ≤ start.cap
  pub cap : start.cap ≤ no_cap
  pub one_each : length start.allowances ≡ start.shape.passes
  pub sum : start.opening + sum start.allowances < 2 ^ 63
