-- The callers of a table while a script runs: each has a slot, from which it is taken while it does an order.
--     present slots, AreFull slots      the callers in their slots, and that no slot is empty
--     AllStand table callers      the callers are the table's, by number
--     HasLeft callers pass amount      the caller of this number has so much left
--     Noted old pass note new, TookIn old pass note new      a caller took this note, and took one in
--     TookLines old lines before new text, StopsAt old lines fault new      lines were done, and a line can't be done
--     Gives old new at pass order result      what an order gives
use Rattle.std.specs.Prelude.{◌≡◌, ℕ, ◌≤◌, Bool, true, false, List, [], ◌∷◌, Option, Some, None, Result, Ok, Err, map, flat_map, slice_get, slice_set, ◌++◌}
use Rattle.fn_model.specs.declared.Kind.{Kind}
use Rattle.fn_model.specs.declared.Kind.TheVariants.{Add}
use Rattle.fn_core.specs.Calls.{IsIdle, left_of}
use Rattle.fn_core.specs.declared.Move.TheVariants.{Glance}
use Rattle.fn_table.specs.Seen.{TableView, PassView, NoteView, IsOf, Met, Stored, note_of}
use Rattle.fn_table.specs.Called.{HasMadeNone}
use Rattle.script_text.specs.Sound.{allowance}
use Rattle.script_text.specs.declared.scripts.Order.{Order}
use Rattle.script_text.specs.declared.scripts.Order.TheVariants as order
use Rattle.script_text.specs.declared.scripts.ScriptLine.{ScriptLine}
use Rattle.script_run.specs.declared.lines.LineAnswer.{LineAnswer}
use Rattle.script_run.specs.declared.play.PlayFault.{PlayFault}
use Rattle.script_run.specs.declared.trial.Caller.{Caller}
use Rattle.script_run.specs.declared.trial.Caller.TheVariants.{Idle, Pending}
use Rattle.script_run.specs.Lines.{answer_line}
use Rattle.script_run.specs.Play.{fault_by}
use Rattle.script_run.specs.Trial.{AreDone, Done, rests_in, seen_of}

-- the callers in their slots
abbrev pub present : List (Option Caller) → List Caller
present [] = []
present (Some c ∷ slots) = c ∷ present slots
present (None ∷ slots) = present slots

-- no slot is empty
abbrev pub AreFull : List (Option Caller) → Type 0
AreFull slots = map Some (present slots) ≡ slots

-- whether the slot of this number has a caller that makes no call
abbrev pub is_resting_slot : Option (Option Caller) → Bool
is_resting_slot (Some (Some (Idle p))) = true
is_resting_slot _ = false

-- a caller that makes no call is idle
abbrev pub IsRight : Caller → Type 0
IsRight (Idle p) = IsIdle p.seen p.number
IsRight (Pending p) = Unit {0}

-- the caller is the table's of this number
pub record Stands (t : TableView) (number : ℕ) (c : Caller) : Type 0 where
  pub together : IsOf t (seen_of c)
  pub named : (seen_of c).number ≡ number
  pub right : IsRight c

abbrev pub AllStand : TableView → List Caller → Type 0
AllStand t callers = (number : ℕ) (c : Caller) → slice_get callers number ≡ Some c → Stands t number c

-- the caller of this number has so much left
abbrev pub HasLeft : List Caller → ℕ → ℕ → Type 0
HasLeft callers number amount = (c : Caller) → slice_get callers number ≡ Some c → amount ≤ left_of (seen_of c).seen number

-- each has left what these lines ask of it
abbrev pub HaveLeft : List Caller → List ScriptLine → Type 0
HaveLeft callers lines = (number : ℕ) → HasLeft callers number (allowance lines number)

-- the order that begins a call of this kind
abbrev pub beginning_of : Kind → ℕ → Order
beginning_of Add n = order.Add n
beginning_of _ n = order.Sub n

-- the caller of this number took this note, and changed as little as that needs
pub record Noted (old : List (Option Caller)) (number : ℕ) (note : NoteView) (new : List (Option Caller)) : Type 0 where
  pub full : AreFull new
  pub giver : PassView
  pub giver_is : slice_get (present old) number ≡ Some (Idle giver)
  pub noted : PassView
  pub stored : Stored giver Glance noted × HasMadeNone giver noted
  pub note_is : note ≡ note_of noted
  pub now : present new ≡ slice_set (present old) number (Idle noted)

-- .. and took one in
pub record TookIn (old : List (Option Caller)) (number : ℕ) (note : NoteView) (new : List (Option Caller)) : Type 0 where
  pub full : AreFull new
  pub taker : PassView
  pub taker_is : slice_get (present old) number ≡ Some (Idle taker)
  pub after : PassView
  pub met : Met taker note after × HasMadeNone taker after
  pub now : present new ≡ slice_set (present old) number (Idle after)

-- what an order gives: its answer, or why it can't be done now
abbrev pub Gives : List (Option Caller) → List (Option Caller) → ℕ → ℕ → Order → Result LineAnswer PlayFault → Type 0
Gives old new at pass order (Ok told) = AreFull new × Done (present old) pass order told (present new)
Gives old new at pass order (Err fault) = (new ≡ old) × (fault_by (rests_in (present old)) at pass order ≡ Some fault)

-- the pass of a caller that makes no call
abbrev pub idle_in : Option Caller → Option PassView
idle_in (Some (Idle p)) = Some p
idle_in _ = None

-- the passes in these slots that make no call
abbrev pub idle_passes : List (Option Caller) → List PassView
idle_passes [] = []
idle_passes (Some (Idle p) ∷ slots) = p ∷ idle_passes slots
idle_passes (_ ∷ slots) = idle_passes slots

-- these lines were done, and their answers were appended
pub record TookLines (old : List Caller) (lines : List ScriptLine) (before : List ℕ) (new : List Caller) (text : List ℕ) : Type 0 where
  pub answers : List LineAnswer
  pub done : AreDone old lines answers new
  pub appended : text ≡ before ++ flat_map answer_line answers

-- the lines before one were done, and that one can't be done
pub record StopsAt (old : List Caller) (lines : List ScriptLine) (fault : PlayFault) (new : List Caller) : Type 0 where
  pub earlier : List ScriptLine
  pub line : ScriptLine
  pub rest : List ScriptLine
  pub lines_are : lines ≡ earlier ++ line ∷ rest
  pub answers : List LineAnswer
  pub done : AreDone old earlier answers new
  pub stops : fault_by (rests_in new) line.at line.pass line.order ≡ Some fault
