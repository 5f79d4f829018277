-- What holds after every legal log.
use Rattle.std.specs.Prelude.{◌≡◌, ◌≢◌, ◌⊎◌, ℕ, zero, suc, ◌+◌, ◌/◌, ◌<◌, ◌≤◌, ◌^◌, ⊤, List, [], ◌∷◌, ◌++◌, length, sum, Some, true, ◌*◌}
use Rattle.fn_model.specs.declared.Call.{Call}
use Rattle.fn_model.specs.declared.Kind.{Kind}
use Rattle.fn_model.specs.Calls.{count, place, own}
use Rattle.fn_model.specs.Arrivals.{expand}
use Rattle.fn_model.specs.Histories.{StandsIn}
use Rattle.fn_model.specs.Integer.{after, value, before, Meets}
use Rattle.fn_model.specs.Order.{AreConsecutive, batches_of}
use Rattle.fn_rows.specs.declared.Stage.TheVariants.{Waiting, Got}
use Rattle.fn_rows.specs.Law.{IsLawful, IsIn, row_in_hand}
use Rattle.fn_core.specs.declared.Purpose.TheVariants as purpose
use Rattle.fn_core.specs.declared.Move.TheVariants.{Scan, See, Look, Apply, Publish, Leave, Load, Exchange, Direct}
use Rattle.fn_core.specs.declared.Move.{Move}
use Rattle.fn_core.specs.declared.Event.{Event}
use Rattle.fn_core.specs.Tree.{parent, aggregator, member, members}
use Rattle.fn_core.specs.State.{Start, Trying, State, opened, history_in, stage, Climbing, Deciding}
use Rattle.fn_core.specs.Machine.{Names, HasFreeRow, IsStart, Allowed, effect, Legal, run}
use Rattle.fn_core.specs.Machine.{place as at_place}
use Rattle.fn_rows.specs.Machine.{Step, IsFree}
use Rattle.fn_rows.specs.Trace.{Traced, Batch, traced}
use Rattle.fn_core.specs.Steps.{IsStepOf, main_after, loaded}
use Rattle.fn_core.specs.Bound.{steps_left}
use Rattle.fn_core.specs.Order.{first_free, next_move}
use Rattle.fn_core.specs.Words.{row_there}
use Rattle.fn_core.specs.Words.{own as own_words}
use Rattle.fn_core.specs.Positions.{Fits}
use Rattle.fn_core.specs.Filling.{FillsAt}
use Rattle.fn_core.specs.Batches.{has_come, IsContiguous, HoldsBase}

-- it holds after every legal log of every start
abbrev pub Always : (Start → State → Type 0) → Type 0
Always Holds = (start : Start) (log : List Event) → IsStart start → Legal start log (opened start) → Holds start (run start log (opened start))

-- the call stands in the history at its place, and the reply is the integer that it meets there
abbrev pub HasReply : Start → List Call → Call → ℕ → Type 0
HasReply start past call reply = Meets start.cap start.opening past call reply

-- the reply of a call that is about to leave its leaf
abbrev pub RepliesAreRight : Type 0
RepliesAreRight = Always (λ start s. (pass : ℕ) (kind : Kind) (base ahead : ℕ) → stage start s kind 1 pass ≡ Got base ahead
    → ((s.callers pass).last.kind ≡ kind) × HasReply start (history_in start s) (s.callers pass).last (after start.cap base kind ahead))

-- the last call of a pass is its own, and has the last number
abbrev pub LastCallsAreOwn : Type 0
LastCallsAreOwn = Always (λ start s. (pass : ℕ) → ((s.callers pass).last.pass ≡ pass) × (1 ≤ (s.callers pass).made → suc (s.callers pass).last.number ≡ (s.callers pass).made))

-- after the event, the last call of its pass has the main word before it as its reply, and has joined the pass's own calls
abbrev pub MeetsMain : Start → State → Event → Type 0
MeetsMain start s event =
    let next = effect start s event in
    HasReply start (history_in start next) (next.callers event.pass).last s.main × (own event.pass (history_in start next) ≡ own event.pass (history_in start s) ++ (next.callers event.pass).last ∷ [])

-- the replies of reads, of direct additions, and of direct exchanges that win
abbrev pub DirectRepliesAreRight : Type 0
DirectRepliesAreRight = Always (λ start s. (event : Event) → Allowed start s event
    → (event.step ≡ Load purpose.Read → MeetsMain start s event)
    × ((amount : ℕ) → event.step ≡ Direct amount → MeetsMain start s event)
    × ((kind : Kind) (amount word : ℕ) → event.step ≡ Exchange kind amount → (s.callers event.pass).position ≡ Trying word → s.main ≡ word → MeetsMain start s event))

-- the main word is the value of the history, and no more than the cap and than the opening and all allowances
abbrev pub MainIsValue : Type 0
MainIsValue = Always (λ start s. (s.main ≡ value start.cap start.opening (history_in start s)) × (s.main ≤ start.cap) × (s.main ≤ start.opening + sum start.allowances))

-- each call stands in the history at most once, and none that wasn't made
abbrev pub CallsStandOnce : Type 0
CallsStandOnce = Always (λ start s. (pass number : ℕ) → (count pass number (history_in start s) ≤ 1) × ((s.callers pass).made ≤ number → count pass number (history_in start s) ≡ 0))

-- words stay below 2 ^ 63, and so does the main word with what a pass has left
abbrev pub WordsAreSmall : Type 0
WordsAreSmall = Always (λ start s. ((kind : Kind) (below index : ℕ) → (s.rows kind (suc below) index).total < 2 ^ 63) × ((pass : ℕ) → pass < start.shape.passes → s.main + (s.callers pass).left < 2 ^ 63))

-- an apply and a direct addition add the whole amount to the main word
abbrev pub AdditionsAddAll : Type 0
AdditionsAddAll = Always (λ start s. (event : Event) → Allowed start s event
    → ((weight : ℕ) → event.step ≡ Apply weight → (effect start s event).main ≡ s.main + weight)
    × ((amount : ℕ) → event.step ≡ Direct amount → (effect start s event).main ≡ s.main + amount))

-- the row law holds at each aggregator
abbrev pub RowsAreLawful : Type 0
RowsAreLawful = Always (λ start s. (kind : Kind) (level index : ℕ) → IsLawful (members start.shape level index) start.shape.rows (s.rows kind level index))

-- the batches of an aggregator that have gone up follow each other from 0 without a gap: the published ones, and at most one more
abbrev pub BatchesFollow : Type 0
BatchesFollow = Always (λ start s.
    ((kind : Kind) (below index : ℕ) → AreConsecutive index 0 (s.arrivals kind (suc below) (parent below index)))
    × ((kind : Kind) (index : ℕ) → AreConsecutive index 0 (batches_of kind s.steps))
    × IsContiguous start s)

-- nothing of a member changes from one state of its aggregator to another: its stage, its announcement, what its scans found, the ends of its rows, and which rows it has had in hand
pub record IsUntouched (rows : ℕ) (old new : Traced) (m : ℕ) : Type 0 where
  pub stage : new.stage m ≡ old.stage m
  pub announced : new.announced m ≡ old.announced m
  pub found : new.found m ≡ old.found m
  pub ends : (r : ℕ) → r / rows ≡ m → new.end r ≡ old.end r
  pub walk : new.walk m ≡ old.walk m

-- nothing of a pass changes from one state to another
pub record IsLeftAlone (start : Start) (old new : State) (pass : ℕ) : Type 0 where
  pub caller : new.callers pass ≡ old.callers pass
  pub places : (kind : Kind) (level : ℕ) → IsUntouched start.shape.rows (at_place start old kind level pass) (at_place start new kind level pass) (member start.shape level pass)

-- an event changes nothing of any other pass
abbrev pub EventsAreLocal : Type 0
EventsAreLocal = Always (λ start s. (event : Event) → Allowed start s event → (other : ℕ) → other ≢ event.pass → IsLeftAlone start s (effect start s event) other)

-- the numbers of the calls rise by one, from n on
abbrev pub AreNumbered : ℕ → List Call → Type 0
AreNumbered n [] = ⊤
AreNumbered n (call ∷ calls) = (call.number ≡ n) × AreNumbered (suc n) calls

-- the pass has a call that has arrived at its leaf and hasn't ended
abbrev pub IsUnderway : Start → State → ℕ → Type 0
IsUnderway start s pass = (kind : Kind) × (has_come (stage start s kind 1 pass) ≡ true)

-- the own calls of a pass stand in the history by number: those that it has ended, and perhaps the one that is underway
abbrev pub OwnCallsAreInOrder : Type 0
OwnCallsAreInOrder = Always (λ start s. (pass : ℕ) → AreNumbered 0 (own pass (history_in start s))
    × ((length (own pass (history_in start s)) ≡ (s.callers pass).made) ⊎ ((suc (length (own pass (history_in start s))) ≡ (s.callers pass).made) × IsUnderway start s pass)))

-- each pass stands in the tree where its position says
abbrev pub PositionsFit : Type 0
PositionsFit = Always (λ start s. (pass : ℕ) → Fits start.shape.levels (λ kind level. stage start s kind level pass) (s.callers pass).position)

-- the calls of a batch that a row has held stand in the history, and the first of them meets the batch's base
abbrev pub BasesAreRight : Type 0
BasesAreRight = Always (λ start s. (kind : Kind) (level index : ℕ) (b : Batch) → IsIn b (s.rows kind level index).linked → StandsIn start.cap start.opening (history_in start s) (expand (s.arrivals kind) level index b.lo b.hi) b.base)

-- the calls of a batch stand in the history from the step on that gives its delegate the base, and the first of them meets the base
abbrev pub HeldBasesAreRight : Type 0
HeldBasesAreRight = Always (λ start s. (pass : ℕ) (kind : Kind) (below lo hi base : ℕ) → HoldsBase (stage start s kind (suc below) pass) lo hi base
    → StandsIn start.cap start.opening (history_in start s) (expand (s.arrivals kind) (suc below) (aggregator start.shape pass (suc below)) lo hi) base)

-- no call meets more than the opening and all allowances
abbrev pub RepliesAreBounded : Type 0
RepliesAreBounded = Always (λ start s. (i : ℕ) → before start.cap start.opening (history_in start s) i ≤ start.opening + sum start.allowances)

-- the history of a log begins the history of each log that goes on from it
abbrev pub HistoriesGrow : Type 0
HistoriesGrow = Always (λ start s. (later : List Event) → Legal start later s → (more : List Call) × (history_in start (run start later s) ≡ history_in start s ++ more))

-- a call that hasn't been made yet gets its place behind all that stands in the history now
abbrev pub PlacesAreBeyond : Type 0
PlacesAreBeyond = Always (λ start s. (later : List Event) → Legal start later s → (pass number i : ℕ) → (s.callers pass).made ≤ number → place pass number (history_in start (run start later s)) ≡ Some i → length (history_in start s) ≤ i)

-- each aggregator takes at most one step by an event, at the place of the event's pass, and the main word goes on as said
abbrev pub EventsAreSteps : Type 0
EventsAreSteps = Always (λ start s. (event : Event) → Allowed start s event
    → ((kind : Kind) (level index : ℕ) → ((effect start s event).rows kind level index ≡ s.rows kind level index)
    ⊎ ((step : Step) × (index ≡ aggregator start.shape event.pass level) × IsStepOf start s event.pass event.step kind level step × ((effect start s event).rows kind level index ≡ traced (s.rows kind level index) step)))
    × ((effect start s event).main ≡ main_after start s event.pass event.step))

-- an event that a pass may take, it may still take after an event of another pass
abbrev pub GuardsStay : Type 0
GuardsStay = Always (λ start s. (event other : Event) → Allowed start s event → Allowed start s other → other.pass ≢ event.pass → Allowed start (effect start s event) other)

-- the next step of a call is told by what is the pass's own, so it stays the same until the pass takes it
abbrev pub NextIsOwn : Type 0
NextIsOwn = (start : Start) (s t : State) (pass : ℕ) → own_words start t pass ≡ own_words start s pass → next_move start t pass ≡ next_move start s pass

-- the row is one of the pass's at its aggregator of this kind and level, and may be filled
abbrev pub IsFreeFor : Start → State → ℕ → Kind → ℕ → ℕ → Type 0
IsFreeFor start s pass kind level r =
    (r / start.shape.rows ≡ member start.shape level pass) × IsFree (members start.shape level (aggregator start.shape pass level)) (at_place start s kind level pass).state (member start.shape level pass) r

-- the move is no scan, no publish and no leave at this kind and level
abbrev pub Spares : Move → Kind → ℕ → Type 0
Spares (Scan k l other) kind level = k ≡ kind → l ≡ level → ⊥
Spares (Publish k l) kind level = k ≡ kind → l ≡ level → ⊥
Spares (Leave k l) kind level = k ≡ kind → l ≡ level → ⊥
Spares _ kind level = Unit {0}

-- a free row stays free until its pass scans, publishes or leaves there: so the row that was chosen at the first See may be filled
abbrev pub FreeRowsStay : Type 0
FreeRowsStay = Always (λ start s. (event : Event) → Allowed start s event → (pass : ℕ) (kind : Kind) (level r : ℕ) → IsFreeFor start s pass kind level r → (event.pass ≡ pass → Spares event.step kind level) → IsFreeFor start (effect start s event) pass kind level r)

-- where a pass had no call underway, and has the reply of the one call that it has made since, its own calls have grown by that call
abbrev pub OwnCallsGrowByOne : Type 0
OwnCallsGrowByOne = Always (λ start s. (later : List Event) → Legal start later s → (pass : ℕ) (kind : Kind) (base ahead : ℕ)
    → let next = run start later s in (IsUnderway start s pass → ⊥) → (next.callers pass).made ≡ suc (s.callers pass).made → stage start next kind 1 pass ≡ Got base ahead
    → own pass (history_in start next) ≡ own pass (history_in start s) ++ (next.callers pass).last ∷ [])

-- and where it has made none since, they are the same
abbrev pub OwnCallsStay : Type 0
OwnCallsStay = Always (λ start s. (later : List Event) → Legal start later s → (pass : ℕ)
    → let next = run start later s in (IsUnderway start s pass → ⊥) → (next.callers pass).made ≡ (s.callers pass).made → own pass (history_in start next) ≡ own pass (history_in start s))

-- the pass's call has begun, and hasn't ended
abbrev pub IsInCall : State → ℕ → Type 0
IsInCall s pass = ((kind : Kind) × (level : ℕ) × ((s.callers pass).position ≡ Climbing kind level)) ⊎ ((kind : Kind) × (level word : ℕ) × ((s.callers pass).position ≡ Deciding kind level word))

-- the event is a look that finds `done` below the offset
abbrev pub IsBehind : Start → State → Event → Type 0
IsBehind start s event = (kind : Kind) × (level at : ℕ) × (event.step ≡ Look kind level) × (stage start (effect start s event) kind level event.pass ≡ Waiting at)

-- the event is an exchange that finds another word than the loaded one
abbrev pub HasLost : State → Event → Type 0
HasLost s event = (kind : Kind) × (amount : ℕ) × (event.step ≡ Exchange kind amount) × (s.main ≢ loaded (s.callers event.pass).position)

-- n is at least the number of rows of each aggregator on the pass's way
abbrev pub HoldsRows : Start → ℕ → ℕ → Type 0
HoldsRows start pass n = (level : ℕ) → level ≤ start.shape.levels → members start.shape level (aggregator start.shape pass level) * start.shape.rows ≤ n

-- each own step of a call leaves fewer, but for looks below its offset and exchanges that lose
abbrev pub StepsRunOut : Type 0
StepsRunOut = Always (λ start s. (event : Event) (n : ℕ) → Allowed start s event → HoldsRows start event.pass n → IsInCall s event.pass
    → (steps_left start (effect start s event) event.pass n < steps_left start s event.pass n) ⊎ (IsBehind start s event ⊎ HasLost s event))

-- a call has at most this many steps left, and exactly 8 a level at each exchange; so the steps up to an answer, each of which leaves fewer, have at most one exchange
abbrev pub CallsAreShort : Type 0
CallsAreShort = Always (λ start s. (pass n : ℕ) → IsInCall s pass
    → (steps_left start s pass n ≤ start.shape.levels * (2 * n + 14)) × ((kind : Kind) (level word : ℕ) → (s.callers pass).position ≡ Deciding kind level word → steps_left start s pass n ≡ 8 * start.shape.levels))

-- an event leaves the steps that the call of any other pass has left
abbrev pub OthersCostNothing : Type 0
OthersCostNothing = Always (λ start s. (event : Event) → Allowed start s event → (other n : ℕ) → other ≢ event.pass → steps_left start (effect start s event) other n ≡ steps_left start s other n)

-- the row that a late call has in hand has its number in the layout, so that the next Peek can name it
abbrev pub RowsHaveNames : Type 0
RowsHaveNames = Always (λ start s. (pass : ℕ) (kind : Kind) (level r : ℕ) → row_in_hand (stage start s kind level pass) ≡ Some r
    → Names start.shape kind level (aggregator start.shape pass level) (row_there start.shape kind level (aggregator start.shape pass level) r) r)

-- a pass has a free row at an aggregator just where the first free one is among its rows
abbrev pub FreeRowsAreFound : Type 0
FreeRowsAreFound = (start : Start) (s : State) (kind : Kind) (level pass : ℕ)
    → (HasFreeRow start s kind level pass → first_free start s kind level pass < start.shape.rows) × (first_free start s kind level pass < start.shape.rows → HasFreeRow start s kind level pass)

-- the move is the first of a call of this kind
abbrev pub Begins : Move → Kind → Type 0
Begins (See k (suc zero)) kind = k ≡ kind
Begins _ kind = ⊥

-- the pass begins no call of this kind by these events
abbrev pub BeginsNone : ℕ → Kind → List Event → Type 0
BeginsNone pass kind [] = ⊤
BeginsNone pass kind (event ∷ later) = (event.pass ≡ pass → Begins event.step kind → ⊥) × BeginsNone pass kind later

-- where a call may still come to fill a row at a level, its first free row there is the one that was first at each moment since it began
abbrev pub ChosenRowsStay : Type 0
ChosenRowsStay = Always (λ start s. (later : List Event) → Legal start later s → (pass : ℕ) (kind : Kind) (level : ℕ) → 1 ≤ level → level ≤ start.shape.levels → BeginsNone pass kind later
    → let next = run start later s in FillsAt (λ k l. stage start next k l pass) (next.callers pass).position kind level → first_free start next kind level pass ≡ first_free start s kind level pass)

-- a call keeps a free row at each level at which it may come to fill one
abbrev pub CallsKeepRows : Type 0
CallsKeepRows = Always (λ start s. (pass : ℕ) (kind : Kind) (level : ℕ) → 1 ≤ level → level ≤ start.shape.levels → FillsAt (λ k l. stage start s k l pass) (s.callers pass).position kind level → HasFreeRow start s kind level pass)

-- so the next step of a call that has arrived at its leaf is always allowed
abbrev pub CallsAlwaysGoOn : Type 0
CallsAlwaysGoOn = Always (λ start s. (pass : ℕ) → pass < start.shape.passes → IsUnderway start s pass → Allowed start s (record { pass = pass; step = next_move start s pass }))
