-- What contracts see of a table, its passes, notes and books, and what a step tells.
--     TableView, PassView, IsOf table pass      a table, a pass, and that they belong together
--     May pass step, Stepped old step n new      what a step needs, and what it tells that found the number n
--     NoteView, Met old note new      a copy of what a pass had seen, and what a meeting tells
--     AreOpened table passes, IsClosed passes book      the passes of a table that opens, and what its closing tells
use Rattle.std.specs.Prelude.{◌≡◌, ℕ, zero, suc, ◌-◌, ◌<◌, ◌==◌, List, [], ◌∷◌, ◌++◌, map, filter, All, slice_get, get_or, Some, Result, Ok, Err}
use mathlib.Core.List.{IsPrefix}
use Rattle.atomic_table.specs.Seated.{TableId}
use Rattle.running.specs.Running.{upto}
use Rattle.fn_layout.specs.Words.{number}
use Rattle.fn_core.specs.declared.Start.{Start}
use Rattle.fn_core.specs.declared.Event.{Event}
use Rattle.fn_core.specs.declared.Move.{Move}
use Rattle.fn_core.specs.declared.Move.TheVariants.{Glance}
use Rattle.fn_core.specs.declared.Position.{Position}
use Rattle.fn_core.specs.declared.Position.TheVariants.{Trying, Deciding}
use Rattle.fn_core.specs.State.{State, opened}
use Rattle.fn_core.specs.Machine.{Allowed, Legal, run}
use Rattle.fn_core.specs.Words.{Own, own, name_of, word}
use Rattle.fn_core.specs.After.{own_after}
use Rattle.fn_core.specs.Calls.{CoreLog, state_in, IsLegal, IsIdle, left_of, with_move}

-- a table: which one it is, and what it opened with
pub record TableView : Type 0 where
  pub table : TableId
  pub start : Start

-- a pass: its table, its number there, and the log that it has seen
pub record PassView : Type 0 where
  pub table : TableId
  pub number : ℕ
  pub seen : CoreLog

-- the pass is one of this table
abbrev pub IsOf : TableView → PassView → Type 0
IsOf t p = (p.table ≡ t.table) × (p.seen.start ≡ t.start)

abbrev pub event : ℕ → Move → Event
event pass step = record { pass = pass; step = step }

-- the events of one pass, in order
abbrev pub events_of : ℕ → List Event → List Event
events_of pass log = filter (λ e. e.pass == pass) log

-- what the pass began with, and another log
abbrev pub with_log : PassView → List Event → CoreLog
with_log p log = record { start = p.seen.start; log = log }

-- what is the pass's own: where it stands and what it has left, its stages, what its scans found, and the ends of its own rows
abbrev pub own_of : PassView → Own
own_of p = own p.seen.start (state_in p.seen) p.number

-- the pass may take this step
abbrev pub May : PassView → Move → Type 0
May p step = Allowed p.seen.start (state_in p.seen) (event p.number step)

-- the number of the word that the pass's step is on
abbrev pub place : PassView → Move → ℕ
place p step = number p.seen.start.shape (name_of p.seen.start.shape p.number step)

-- The step was taken, and found this number: the log is what was logged until then, and the event. Until then there was nothing more of this pass
pub record Stepped (p : PassView) (step : Move) (n : ℕ) (q : PassView) : Type 0 where
  pub before : List Event
  pub now : q ≡ record p { seen = with_move (with_log p before) p.number step }
  pub legal : IsLegal q.seen
  pub begins : IsPrefix p.seen.log before
  pub events : events_of p.number before ≡ events_of p.number p.seen.log
  pub answer : n ≡ word p.seen.start (state_in (with_log p before)) (name_of p.seen.start.shape p.number step)
  pub own : own_of q ≡ own_after p.seen.start p.number step n (own_of p)

-- the step was taken, which tells its caller no number
abbrev pub Stored : PassView → Move → PassView → Type 0
Stored p step q = (n : ℕ) × Stepped p step n q

-- the word that a try has loaded
abbrev pub HasLoaded : ℕ → Position → Type 0
HasLoaded loaded (Trying word) = word ≡ loaded
HasLoaded loaded (Deciding kind level word) = word ≡ loaded
HasLoaded loaded _ = ⊥

-- the number that an exchange found
abbrev pub found_by : {A : Type 0} → ℕ → Result A ℕ → ℕ
found_by loaded (Ok won) = loaded
found_by loaded (Err found) = found

-- a note of a table: a log that some pass had seen
pub record NoteView : Type 0 where
  pub table : TableId
  pub seen : CoreLog

-- the note is one of this table
abbrev pub IsNoteOf : TableView → NoteView → Type 0
IsNoteOf t n = (n.table ≡ t.table) × (n.seen.start ≡ t.start)

-- what the pass has seen
abbrev pub note_of : PassView → NoteView
note_of p = record { table = p.table; seen = p.seen }

-- the pass took a Glance, and before it had seen the note too
pub record Met (p : PassView) (n : NoteView) (q : PassView) : Type 0 where
  pub stepped : Stored p Glance q
  pub note : IsPrefix n.seen.log stepped.1.before

-- Glances of the first pass
abbrev pub glances : ℕ → List Event
glances zero = []
glances (suc k) = event 0 Glance ∷ glances k

-- they leave each state as it was, and a pass that rests
abbrev pub GlancesLeaveStates : Type 0
GlancesLeaveStates = (start : Start) (s : State) (k : ℕ) → run start (glances k) s ≡ s

abbrev pub GlancesLeaveIdle : Type 0
GlancesLeaveIdle = (start : Start) (pass k : ℕ) → IsIdle (record { start = start; log = glances k }) pass

-- .. and the first pass may take them as soon as the funnel is open
abbrev pub GlancesAreLegal : Type 0
GlancesAreLegal = (start : Start) (k : ℕ) → 0 < start.shape.passes → Legal start (glances k) (opened start)

-- a pass of a table that opens, at which the first pass takes a Glance for each other
abbrev pub fresh : TableView → ℕ → PassView
fresh t number = record { table = t.table; number = number; seen = record { start = t.start; log = glances (t.start.shape.passes - 1) } }

-- all passes of a table that opens, by number
abbrev pub fresh_passes : TableView → List PassView
fresh_passes t = map (fresh t) (upto t.start.shape.passes)

-- the pass makes no call, and has its whole allowance
abbrev pub IsWhole : PassView → Type 0
IsWhole p = IsIdle p.seen p.number × (left_of p.seen p.number ≡ get_or p.seen.start.allowances p.number 0)

-- the passes are all that the table has, by number
abbrev pub AreAll : TableView → List PassView → Type 0
AreAll t passes = map (λ p. p.number) passes ≡ upto t.start.shape.passes

-- the passes of a table that opens: all of them by number, each with Glances alone in its log
pub record AreOpened (t : TableView) (passes : List PassView) : Type 0 where
  pub fresh : passes ≡ fresh_passes t
  pub all : AreAll t passes
  pub together : All (IsOf t) passes
  pub idle : All IsWhole passes

-- the log begins with what the pass has seen, and has no more events of it
pub record HasAll (log : List Event) (p : PassView) : Type 0 where
  pub begins : IsPrefix p.seen.log log
  pub events : events_of p.number log ≡ events_of p.number p.seen.log

-- a closed table's log: it is legal, and it is the logs of the passes put together, with the Glance that closes it
pub record IsClosed (passes : List PassView) (book : CoreLog) : Type 0 where
  pub before : List Event
  pub last : book.log ≡ before ++ event 0 Glance ∷ []
  pub legal : IsLegal book
  pub each : (k : ℕ) (p : PassView) → slice_get passes k ≡ Some p → HasAll before p
