-- What a call in memory knows of itself.
--     position_of course      where its pass stands
--     at_stage course stage, risen course seen, sunk course base      the call after it has gone on at its level, up a level, or down one
--     IsCourseOf start own course, HasChosen core pass course      the numbers are those of the pass's own, and the rows those that the call will fill
--     Holds pass course      the pass has a call underway, which this is
--     pending_of pass course      what the two together are known by
--     Moved pass course stage after      the call took its next step at its level, to this stage
use Rattle.std.specs.Prelude.{◌≡◌, ◌<◌, ◌≤◌, ◌-◌, ◌+◌, ◌*◌, ◌==◌, if◌then◌else◌, ℕ, Bool, true, false, Option, Some, None, length, set, slice_index_or}
use Rattle.fn_model.specs.declared.Kind.{Kind}
use Rattle.fn_rows.specs.declared.Stage.{Stage}
use Rattle.fn_rows.specs.declared.Stage.TheVariants.{Saw, Told, Lead, Late, Shut, Based, Headed, FilledLo, FilledBase, Filled, Pointed, At, Over, Hit}
use Rattle.fn_rows.specs.declared.Field.{Field}
use Rattle.fn_layout.specs.declared.shape.Shape.{Shape}
use Rattle.fn_layout.specs.Tree.{IsLevel, aggregator, member}
use Rattle.fn_layout.specs.Words.{IsAggregator}
use Rattle.fn_core.specs.declared.Start.{Start}
use Rattle.fn_core.specs.declared.Move.{Move}
use Rattle.fn_core.specs.declared.Move.TheVariants.{Peek}
use Rattle.fn_core.specs.declared.answer.Answer.{Answer}
use Rattle.fn_core.specs.declared.answer.CoreStep.TheVariants.{Going}
use Rattle.fn_core.specs.declared.Position.{Position}
use Rattle.fn_core.specs.declared.Position.TheVariants.{Climbing, Deciding}
use Rattle.fn_core.specs.State.{hi_of, lo_of}
use Rattle.fn_core.specs.Words.{Own, link, row_there, NamesMine}
use Rattle.fn_core.specs.Laws.{IsFreeFor}
use Rattle.fn_core.specs.Filling.{FillsAt}
use Rattle.fn_core.specs.After.{put_level}
use Rattle.fn_core.specs.Calls.{state_in, IsLegal, HasCall, told_by}
use Rattle.fn_table.specs.Seen.{PassView, Stepped, own_of}
use Rattle.fn_climb.specs.declared.course.Batch.{Batch}
use Rattle.fn_climb.specs.declared.course.Course.{Course}
use Rattle.fn_climb.specs.Next.{PendingView, IsNext}

-- where a pass stands whose call has climbed to a level, and may have loaded a word there
abbrev pub position_by : Kind → ℕ → Option ℕ → Position
position_by kind level None = Climbing kind level
position_by kind level (Some word) = Deciding kind level word

-- .. of a call in memory
abbrev pub position_of : Course → Position
position_of c = position_by c.kind c.level c.word

-- the call has closed its batch
abbrev pub IsShut : Course → Type 0
IsShut c = (at hi : ℕ) × (c.stage ≡ Shut at hi)

-- the batch that it has closed at a level below its own
abbrev pub batch_below : Course → ℕ → Batch
batch_below c level = slice_index_or c.below (level - 1) (record { at = 0; hi = 0 })

-- the call after it has gone on to a stage at its level
abbrev pub at_stage : Course → Stage → Course
at_stage c g = record c { word = None; stage = g }

-- the batch that a call has closed which is at this stage
abbrev pub batch_of : Stage → Batch
batch_of g = record { at = lo_of g; hi = hi_of g }

-- the call after it has gone up a level with the batch that it had closed
abbrev pub risen : Course → ℕ → Course
risen c seen = record c { level = c.level + 1; word = None; stage = Saw seen; below = set c.below (c.level - 1) (batch_of c.stage) }

-- .. and down a level, where it gets a base for the batch that it had closed there
abbrev pub sunk : Course → ℕ → Course
sunk c base = let batch = batch_below c (c.level - 1) in record c { level = c.level - 1; word = None; stage = Based batch.at batch.hi base }

-- the weight of the batch that the call has closed one level below its own
abbrev pub weight_below : Course → ℕ
weight_below c = if c.level == 1 then 0 else (batch_below c (c.level - 1)).hi - (batch_below c (c.level - 1)).at

-- whether a late call has a row in hand
abbrev pub walks : Stage → Bool
walks (At at r) = true
walks (Over at r) = true
walks (Hit at r lo) = true
walks _ = false

-- .. or a leading call fills its row
abbrev pub has_row : Stage → Bool
has_row (Headed at hi b h) = true
has_row (FilledLo at hi b h r) = true
has_row (FilledBase at hi b h r) = true
has_row (Filled at hi b r) = true
has_row (Pointed at hi b r) = true
has_row stage = walks stage

-- whether the next step of a call at this stage leads to another stage at its level, and leaves it going
abbrev pub goes_on : Stage → Bool
goes_on (Saw seen) = true
goes_on (Told seen) = true
goes_on (Lead at) = true
goes_on (Late at) = true
goes_on (Based at hi b) = true
goes_on stage = has_row stage

-- the load of a field of the row in hand
abbrev pub peek_of : PassView → Course → ℕ → Field → Move
peek_of p c r field = Peek (row_there p.seen.start.shape c.kind c.level (aggregator p.seen.start.shape p.number c.level) r) field

-- the word names a row on the table, or none
abbrev pub IsLink : Shape → ℕ → Type 0
IsLink shape word = (kind : Kind) × (level index row : ℕ) × IsAggregator shape kind level index × NamesMine shape level index row × (word ≡ link shape kind level index row)

-- the course is that of a pass with this own
pub record IsCourseOf (start : Start) (o : Own) (c : Course) : Type 0 where
  pub position : o.caller.position ≡ position_of c
  pub here : c.stage ≡ o.stages c.kind c.level
  pub two : length c.below ≡ 2
  pub under : (level : ℕ) → 1 ≤ level → level < c.level → o.stages c.kind level ≡ Shut (batch_below c level).at (batch_below c level).hi

-- the row in memory for a level, by its number at the aggregator
abbrev pub chosen_at : PassView → Course → ℕ → ℕ
chosen_at p c level = member p.seen.start.shape level p.number * p.seen.start.shape.rows + slice_index_or c.rows (level - 1) 0

-- at each level at which the call may come to fill a row, the row in memory is one of the pass's that it may fill
pub record HasChosen (p : PassView) (c : Course) : Type 0 where
  pub rows : (level : ℕ) → IsLevel p.seen.start.shape level → FillsAt (own_of p).stages (own_of p).caller.position c.kind level
      → (slice_index_or c.rows (level - 1) 0 < p.seen.start.shape.rows) × IsFreeFor p.seen.start (state_in p.seen) p.number c.kind level (chosen_at p c level)

-- the pass has a call underway, and this is how far it has come
pub record Holds (p : PassView) (c : Course) : Type 0 where
  pub inside : p.number < p.seen.start.shape.passes
  pub legal : IsLegal p.seen
  pub call : HasCall p.seen p.number
  pub course : IsCourseOf p.seen.start (own_of p) c
  pub chosen : HasChosen p c

-- what a pass and its call in memory are known by
abbrev pub pending_of : PassView → Course → PendingView
pending_of p c = record { pass = p; rows = c.rows }

-- The call took its next step, by which it goes on to this stage at its level, and which leaves it going
pub record Moved (p : PassView) (c : Course) (g : Stage) (q : PassView) : Type 0 where
  pub step : Move
  pub next : IsNext (pending_of p c) step
  pub number : ℕ
  pub stepped : Stepped p step number q
  pub caller : (own_of q).caller ≡ (own_of p).caller
  pub stages : (own_of q).stages ≡ put_level (own_of p).stages c.kind c.level g
  pub going : (stood : Stage) (answer : Answer) → told_by p.seen.start.cap step stood answer ≡ Going
