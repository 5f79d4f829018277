-- What is a pass's own after its step, by the number that the step found.
--     own_after start pass step n own      what it is after the step found n
--     GoesOn start s pass step      the step leaves the pass so
use Rattle.std.specs.Prelude.{◌≡◌, ℕ, zero, suc, ◌+◌, ◌-◌, ◌*◌, ◌/◌, ◌%◌, ◌==◌, ◌&&◌, List, Option, Some, None, if◌then◌else◌, slice_index}
use Rattle.fn_model.specs.declared.Kind.{Kind}
use Rattle.fn_model.specs.declared.Kind.TheVariants.{Add, Read}
use Rattle.fn_model.specs.Calls.{same_kind}
use Rattle.fn_rows.specs.declared.Stage.{Stage}
use Rattle.fn_rows.specs.declared.Stage.TheVariants.{Out, Saw, Told, Waiting, Lead, Late, Shut, Based, Headed, Filled, Pointed, At, Over, Hit, Got}
use Rattle.fn_rows.specs.Machine.{put, looked, filled, peeked}
use Rattle.fn_layout.specs.declared.shape.Shape.{Shape}
use Rattle.fn_layout.specs.Tree.{member}
use Rattle.fn_core.specs.declared.Purpose.TheVariants as purpose
use Rattle.fn_core.specs.declared.Move.{Move}
use Rattle.fn_core.specs.declared.Move.TheVariants.{Scan, See, Announce, Arrive, Look, Close, Apply, Head, Fill, Point, Publish, Peek, Leave, Load, Exchange, Direct, Glance}
use Rattle.fn_core.specs.declared.Event.{Event}
use Rattle.fn_core.specs.declared.Start.{Start}
use Rattle.fn_core.specs.State.{Position, Resting, Trying, Climbing, Deciding, State, opened, after_call, reply_of}
use Rattle.fn_core.specs.Machine.{moves, local_row, IsStart, Allowed, Legal, run}
use Rattle.fn_core.specs.Words.{Own, own, name_of, word, words_of}
use Rattle.fn_layout.specs.Words.{IsNamed, number}

-- a function changed for one kind and level
abbrev pub put_level : {A : Type 0} → (Kind → ℕ → A) → Kind → ℕ → A → Kind → ℕ → A
put_level f kind level value k j = if same_kind k kind && (j == level) then value else f k j

-- the own of a pass with these at its aggregator of a kind and level
abbrev pub own_with : Own → Kind → ℕ → Stage → (ℕ → Option ℕ) → (ℕ → ℕ) → Own
own_with o kind level stage found ends =
    record { caller = o.caller; stages = put_level o.stages kind level stage; found = put_level o.found kind level found; ends = put_level o.ends kind level ends }

-- the own of a pass that has gone on to this stage
abbrev pub in_stage : Own → Kind → ℕ → Stage → Own
in_stage o kind level stage = own_with o kind level stage (o.found kind level) (o.ends kind level)

-- the own of a pass that has gone on to this position
abbrev pub in_position : Own → Position → Own
in_position o position = record { caller = record o.caller { position = position }; stages = o.stages; found = o.found; ends = o.ends }

-- .. after one more call
abbrev pub with_call : Own → ℕ → Kind → ℕ → Own
with_call o pass kind amount =
    record { caller = after_call o.caller (record { pass = pass; number = o.caller.made; kind = kind; amount = amount }); stages = o.stages; found = o.found; ends = o.ends }

-- the row's number at its aggregator plus 1, for a word that names a row, or 0 for none
abbrev pub row_read : Shape → ℕ → ℕ
row_read shape zero = 0
row_read shape (suc row) = let slot = row / shape.rows in suc (local_row shape (suc (slot % shape.levels)) (slot / shape.levels / 2) row)

-- the stage after an Announce
abbrev pub told_stage : Stage → Stage
told_stage (Saw seen) = Told seen
told_stage stage = stage

-- after a Look
abbrev pub looked_stage : ℕ → Stage → Stage
looked_stage n (Waiting at) = looked at n
looked_stage n stage = stage

-- after a Close
abbrev pub closed_stage : ℕ → Stage → Stage
closed_stage n (Lead at) = Shut at n
closed_stage n stage = stage

-- after the batch got its base
abbrev pub based_stage : ℕ → Stage → Stage
based_stage b (Shut at hi) = Based at hi b
based_stage b stage = stage

-- after a Head that found this row
abbrev pub headed_stage : ℕ → Stage → Stage
headed_stage row (Based at hi b) = Headed at hi b row
headed_stage row (Late at) = At at (row - 1)
headed_stage row stage = stage

-- after a Point
abbrev pub pointed_stage : Stage → Stage
pointed_stage (Filled at hi b r) = Pointed at hi b r
pointed_stage stage = stage

-- after a Publish
abbrev pub published_stage : Stage → Stage
published_stage (Pointed at hi b r) = Got b 0
published_stage stage = stage

-- the ends of a member's rows after a Publish
abbrev pub published_ends : ℕ → ℕ → Stage → (ℕ → ℕ) → ℕ → ℕ
published_ends rows m (Pointed at hi b row) ends r = if m * rows + r % rows == row then hi else ends r
published_ends rows m stage ends r = ends r

-- after a Peek that found n, or this row
abbrev pub peeked_stage : ℕ → ℕ → Stage → Stage
peeked_stage n row (At at r) = peeked at r n
peeked_stage n row (Over at r) = At at (row - 1)
peeked_stage n row (Hit at r lo) = Got n (at - lo)
peeked_stage n row stage = stage

-- the own of a pass after a step, here of an Arrive
abbrev pub arrived_own : ℕ → Kind → ℕ → ℕ → ℕ → Own → Own
arrived_own pass kind zero weight n o = o
arrived_own pass kind (suc zero) weight n o = with_call (in_stage o kind 1 (Waiting n)) pass kind weight
arrived_own pass kind (suc (suc below)) weight n o = in_stage o kind (suc (suc below)) (Waiting n)

-- .. of an Apply
abbrev pub based_own : ℕ → Own → Position → Own
based_own n o (Climbing kind level) = in_stage o kind level (based_stage n (o.stages kind level))
based_own n o _ = o

-- .. of a Fill
abbrev pub filled_own : Shape → ℕ → ℕ → Own → Position → Own
filled_own shape pass row o (Climbing kind level) = in_stage o kind level (filled (local_row shape level pass row) (o.stages kind level))
filled_own shape pass row o _ = o

-- .. of a Peek
abbrev pub peeked_own : Start → ℕ → Own → Position → Own
peeked_own start n o (Climbing kind level) = in_stage o kind level (peeked_stage n (row_read start.shape n) (o.stages kind level))
peeked_own start n o _ = o

-- a pass that has left its aggregator
abbrev pub out_of : Own → Kind → ℕ → Own
out_of o kind level = own_with o kind level Out (λ other. None) (o.ends kind level)

-- .. of a Leave, by which the call ends or goes down a level
abbrev pub left_own : ℕ → Kind → ℕ → Own → Own
left_own cap kind zero o = o
left_own cap kind (suc zero) o = in_position (out_of o kind 1) Resting
left_own cap kind (suc (suc below)) o =
    let left = out_of o kind (suc (suc below)) in
    in_position (in_stage left kind (suc below) (based_stage (reply_of cap kind (o.stages kind (suc (suc below)))) (left.stages kind (suc below)))) (Climbing kind (suc below))

-- .. of a Load for a try
abbrev pub loaded_own : ℕ → Own → Position → Own
loaded_own n o (Climbing kind level) = in_position o (Deciding kind level n)
loaded_own n o _ = in_position o (Trying n)

-- .. of a compare-exchange
abbrev pub exchanged_own : ℕ → Kind → ℕ → ℕ → Own → Position → Own
exchanged_own pass kind amount n o (Trying loaded) = if n == loaded then in_position (with_call o pass kind amount) Resting else in_position o Resting
exchanged_own pass kind amount n o (Deciding k level loaded) =
    if n == loaded then in_position (in_stage o k level (based_stage n (o.stages k level))) (Climbing k level) else in_position o (Climbing k level)
exchanged_own pass kind amount n o _ = o

-- the own of a pass after its step, which found n
abbrev pub own_after : Start → ℕ → Move → ℕ → Own → Own
own_after start pass (Scan kind level other) n o = own_with o kind level (o.stages kind level) (put (o.found kind level) (member start.shape level other) (Some n)) (o.ends kind level)
own_after start pass (See kind level) n o = in_position (in_stage o kind level (Saw n)) (Climbing kind level)
own_after start pass (Announce kind level) n o = in_stage o kind level (told_stage (o.stages kind level))
own_after start pass (Arrive kind level weight) n o = arrived_own pass kind level weight n o
own_after start pass (Look kind level) n o = in_stage o kind level (looked_stage n (o.stages kind level))
own_after start pass (Close kind level) n o = in_stage o kind level (closed_stage n (o.stages kind level))
own_after start pass (Apply weight) n o = based_own n o o.caller.position
own_after start pass (Head kind level) n o = in_stage o kind level (headed_stage (row_read start.shape n) (o.stages kind level))
own_after start pass (Fill row field) n o = filled_own start.shape pass row o o.caller.position
own_after start pass (Point kind level row) n o = in_stage o kind level (pointed_stage (o.stages kind level))
own_after start pass (Publish kind level) n o =
    own_with o kind level (published_stage (o.stages kind level)) (o.found kind level) (published_ends start.shape.rows (member start.shape level pass) (o.stages kind level) (o.ends kind level))
own_after start pass (Peek row field) n o = peeked_own start n o o.caller.position
own_after start pass (Leave kind level) n o = left_own start.cap kind level o
own_after start pass (Load purpose.Try) n o = loaded_own n o o.caller.position
own_after start pass (Load purpose.Read) n o = with_call o pass Read 0
own_after start pass (Exchange kind amount) n o = exchanged_own pass kind amount n o o.caller.position
own_after start pass (Direct amount) n o = with_call o pass Add amount
own_after start pass Glance n o = o

-- the pass goes on by its step, which found the word of its name
abbrev pub GoesOn : Start → State → ℕ → Move → Type 0
GoesOn start s pass step = own start (moves start s pass step) pass ≡ own_after start pass step (word start s (name_of start.shape pass step)) (own start s pass)

-- after every legal log, each step tells its pass what it is then
abbrev pub StepsTell : Type 0
StepsTell = (start : Start) (log : List Event) (event : Event) → IsStart start → Legal start log (opened start) → Allowed start (run start log (opened start)) event → GoesOn start (run start log (opened start)) event.pass event.step

-- after every legal log, the word that an allowed step is on is one of the funnel's, and the number found there is the word of its name
abbrev pub WordsAreFound : Type 0
WordsAreFound = (start : Start) (log : List Event) (event : Event) → IsStart start → Legal start log (opened start) → Allowed start (run start log (opened start)) event
    → IsNamed start.shape (name_of start.shape event.pass event.step)
    × (slice_index (words_of start (run start log (opened start))) (number start.shape (name_of start.shape event.pass event.step)) ≡ word start (run start log (opened start)) (name_of start.shape event.pass event.step))
