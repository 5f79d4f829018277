-- What running a script on a table gives: each line is done on the callers as the lines before have left them.
--     seen_of caller, rests_in callers      what a caller has seen, and which callers make no call
--     OrderDone caller order told after      what an order does that is answered so
--     LineDone callers line told after, AreDone callers lines answers after      what a line does, and lines one after the other
--     stop_at passes callers lines      why the next line can't be done, or the script can't end
--     IsTrial script answers book, TellsTrial script text book      what a run gives
--     IsHalted script fault callers, AreHandedBack script fault callers      where a run stops, and what a refusal hands back
use Rattle.std.specs.Prelude.{◌≡◌, ◌≢◌, ◌⊎◌, ℕ, Bool, true, false, List, [], ◌∷◌, ◌++◌, Option, Some, map, slice_get, slice_set, option_map}
use Rattle.std.specs.List.{All}
use Rattle.running.specs.Running.{upto}
use Rattle.fn_model.specs.declared.Kind.{Kind}
use Rattle.fn_model.specs.declared.Kind.TheVariants.{Add, Sub, Read}
use Rattle.fn_model.specs.Integer.{value}
use Rattle.fn_core.specs.declared.Move.TheVariants.{Load, Direct, Glance}
use Rattle.fn_core.specs.declared.Purpose.TheVariants as purpose
use Rattle.fn_core.specs.declared.answer.CoreStep.{CoreStep}
use Rattle.fn_core.specs.declared.answer.CoreStep.TheVariants.{Ready}
use Rattle.fn_core.specs.Machine.{no_cap}
use Rattle.fn_core.specs.Calls.{CoreLog, calls_in}
use Rattle.fn_table.specs.Seen.{TableView, PassView, AreAll, IsClosed, IsOf, Met, Stepped, Stored, fresh_passes, note_of}
use Rattle.fn_climb.specs.Next.{PendingView}
use Rattle.fn_climb.specs.Begin.{BeginAnswers}
use Rattle.fn_climb.specs.Steps.{Went}
use Rattle.fn_climb.specs.Turns.{Polled}
use Rattle.fn_climb.specs.declared.beginning.Begun.TheVariants as begun
use Rattle.fn_table.specs.Called.{HasCalled, HasMadeNone}
use Rattle.fn_direct.specs.Tries.{Tried}
use Rattle.script_text.specs.declared.scripts.Order.{Order}
use Rattle.script_text.specs.declared.scripts.Order.TheVariants as order
use Rattle.script_text.specs.declared.scripts.Script.{Script}
use Rattle.script_text.specs.declared.scripts.ScriptLine.{ScriptLine}
use Rattle.script_run.specs.declared.trial.Caller.{Caller}
use Rattle.script_run.specs.declared.trial.Caller.TheVariants.{Idle, Pending}
use Rattle.script_run.specs.declared.lines.LineAnswer.{LineAnswer}
use Rattle.script_run.specs.declared.lines.LineAnswer.TheVariants.{Waits, NoRow, Reply, Lost}
use Rattle.script_run.specs.declared.lines.LineAnswer.TheVariants as answer
use Rattle.script_run.specs.declared.play.PlayFault.{PlayFault}
use Rattle.script_run.specs.declared.play.PlayFault.TheVariants.{Unfinished, NoMemory}
use Rattle.script_run.specs.Lines.{answers_text}
use Rattle.script_run.specs.Play.{fault_by, least_busy, opened_core, told_answer}
use Rattle.script_run.specs.Answered.{IsAnswered}

-- what a caller has seen
abbrev pub seen_of : Caller → PassView
seen_of (Idle p) = p
seen_of (Pending p) = p.pass

-- whether a caller makes no call
abbrev pub is_idle : Option Caller → Bool
is_idle (Some (Idle p)) = true
is_idle _ = false

-- .. by its number
abbrev pub rests_in : List Caller → ℕ → Bool
rests_in callers pass = is_idle (slice_get callers pass)

-- a pass began a call: it waits at its leaf, or at some level each of its rows is blocked
abbrev pub Began : PassView → Kind → ℕ → LineAnswer → Caller → Type 0
Began p kind n Waits (Pending q) = BeginAnswers p kind n (begun.Waiting q)
Began p kind n (NoRow at) (Idle q) = BeginAnswers p kind n (begun.NoRow q at)
Began p kind n _ _ = ⊥

-- a pass tried to subtract by itself: its exchange won, or found another word and nothing was spent
abbrev pub Subtracted : PassView → ℕ → LineAnswer → PassView → Type 0
Subtracted p n (Reply met) q = Tried p Sub n met met q × HasCalled p Sub n met q
Subtracted p n (Lost loaded found) q = Tried p Sub n loaded found q × (found ≢ loaded) × HasMadeNone p q
Subtracted p n _ q = ⊥

-- an order to a pass that makes no call
abbrev pub CallDone : PassView → Order → LineAnswer → Caller → Type 0
CallDone p (order.Add n) told c = Began p Add n told c
CallDone p (order.Sub n) told c = Began p Sub n told c
CallDone p order.Read told c = (n : ℕ) × (q : PassView) × Stepped p (Load purpose.Read) n q × HasCalled p Read 0 n q × (told ≡ Reply n) × (c ≡ Idle q)
CallDone p (order.Direct amount) told c = (n : ℕ) × (q : PassView) × Stepped p (Direct amount) n q × HasCalled p Add amount n q × (told ≡ Reply n) × (c ≡ Idle q)
CallDone p (order.SubDirect amount) told c = (q : PassView) × Subtracted p amount told q × (c ≡ Idle q)
CallDone p _ told c = ⊥

-- a call stays with its pass until it is answered, and keeps its rows
abbrev pub left_with : PendingView → CoreStep → PassView → Caller
left_with p (Ready n) q = Idle q
left_with p _ q = Pending (record p { pass = q })

-- an order to a pass that is in mid-call
abbrev pub StepDone : PendingView → Order → LineAnswer → Caller → Type 0
StepDone p order.Step told c = (step : CoreStep) × (q : PassView) × Went p step q × (told ≡ told_answer step) × (c ≡ left_with p step q)
StepDone p order.Poll told c = (step : CoreStep) × (q : PassView) × Polled p step q × (told ≡ told_answer step) × (c ≡ left_with p step q)
StepDone p _ told c = ⊥

-- an order to a caller
abbrev pub OrderDone : Caller → Order → LineAnswer → Caller → Type 0
OrderDone (Idle p) order told c = CallDone p order told c
OrderDone (Pending p) order told c = StepDone p order told c

-- the second pass took a note, and then the first one met it; they may be the same
pub record HasMet (old : List Caller) (pass other : ℕ) (new : List Caller) : Type 0 where
  pub giver : PassView
  pub giver_is : slice_get old other ≡ Some (Idle giver)
  pub noted : PassView
  pub note : Stored giver Glance noted × HasMadeNone giver noted
  pub taker : PassView
  pub taker_is : slice_get (slice_set old other (Idle noted)) pass ≡ Some (Idle taker)
  pub after : PassView
  pub met : Met taker (note_of noted) after × HasMadeNone taker after
  pub now : new ≡ slice_set (slice_set old other (Idle noted)) pass (Idle after)

-- a line's order to a pass, which changes the callers that it names and no others
abbrev pub Done : List Caller → ℕ → Order → LineAnswer → List Caller → Type 0
Done old pass (order.Meet other) told new = (told ≡ answer.Met) × HasMet old pass other new
Done old pass order told new = (was now : Caller) × (slice_get old pass ≡ Some was) × OrderDone was order told now × (new ≡ slice_set old pass now)

abbrev pub LineDone : List Caller → ScriptLine → LineAnswer → List Caller → Type 0
LineDone old line told new = Done old line.pass line.order told new

-- these lines were done one after the other, with these answers
abbrev pub AreDone : List Caller → List ScriptLine → List LineAnswer → List Caller → Type 0
AreDone old [] [] new = new ≡ old
AreDone old (line ∷ lines) (told ∷ answers) new = (now : List Caller) × LineDone old line told now × AreDone now lines answers new
AreDone old _ _ new = ⊥

-- why the next line can't be done, or the script can't end
abbrev pub stop_at : ℕ → List Caller → List ScriptLine → Option PlayFault
stop_at passes callers (line ∷ rest) = fault_by (rests_in callers) line.at line.pass line.order
stop_at passes callers [] = option_map Unfinished (least_busy (rests_in callers) passes)

-- the callers of a table that opens
abbrev pub first_callers : TableView → List Caller
first_callers t = map Idle (fresh_passes t)

-- A run of a script on a table to its end: the passes did all lines, and the table was closed. The answers tell of the book's history
pub record IsTrial (script : Script) (answers : List LineAnswer) (book : CoreLog) : Type 0 where
  pub table : TableView
  pub opens : table.start ≡ (opened_core script).start
  pub passes : List PassView
  pub all : AreAll table passes
  pub together : All (IsOf table) passes
  pub done : AreDone (first_callers table) script.lines answers (map Idle passes)
  pub start : book.start ≡ table.start
  pub closed : IsClosed passes book
  pub told : IsAnswered script answers (value no_cap script.opening (calls_in book)) (calls_in book)

-- the text is that of such a run, with the value of the book
abbrev pub TellsTrial : Script → List ℕ → CoreLog → Type 0
TellsTrial script text book = (answers : List LineAnswer) × IsTrial script answers book × (text ≡ answers_text answers (value no_cap script.opening (calls_in book)))

-- A run of a script on a table up to a line that can't be done, or to its end where a pass is in mid-call: these are all callers of the table by number, as the lines before have left them
pub record IsHalted (script : Script) (fault : PlayFault) (callers : List Caller) : Type 0 where
  pub table : TableView
  pub opens : table.start ≡ (opened_core script).start
  pub earlier : List ScriptLine
  pub rest : List ScriptLine
  pub lines : script.lines ≡ earlier ++ rest
  pub answers : List LineAnswer
  pub done : AreDone (first_callers table) earlier answers callers
  pub stops : stop_at script.shape.passes callers rest ≡ Some fault
  pub numbers : map (λ c. (seen_of c).number) callers ≡ upto script.shape.passes
  pub together : All (λ c. IsOf table (seen_of c)) callers

-- what a refusal hands back
abbrev pub AreHandedBack : Script → PlayFault → List Caller → Type 0
AreHandedBack script fault callers = ((fault ≡ NoMemory) × (callers ≡ [])) ⊎ IsHalted script fault callers
