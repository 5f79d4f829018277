-- When a line of a script can be done, and what doing it leaves.
--     IsReady core lines      every line can be done where it comes to stand
--     Does old new pass fault answer steps amount result      what doing an order gives
--     Gives view result meant      a result is the one that is meant, unless memory ran out
--     onto text run      a text, and what a run gives after it
use Rattle.std.specs.Prelude.{◌≡◌, ◌⊎◌, ℕ, ◌+◌, ◌<◌, ◌≤◌, ◌++◌, List, Option, Some, None, Result, Ok, Err}
use Rattle.fn_core.specs.declared.Move.{Move}
use Rattle.fn_core.specs.Calls.{CoreLog, IsIdle, HasCall, LeavesOthers, left_of, with_moves}
use Rattle.script_text.specs.Sound.{allowance}
use Rattle.script_text.specs.declared.scripts.ScriptLine.{ScriptLine}
use Rattle.script_run.specs.Lines.{answers_text}
use Rattle.script_run.specs.declared.lines.LineAnswer.{LineAnswer}
use Rattle.script_run.specs.declared.play.PlayFault.{PlayFault}
use Rattle.script_run.specs.declared.play.PlayFault.TheVariants.{NoMemory}

-- each pass has left what these lines ask of it, and each that doesn't rest has a call underway
pub record IsReady (core : CoreLog) (lines : List ScriptLine) : Type 0 where
  pub enough : (pass : ℕ) → pass < core.start.shape.passes → allowance lines pass ≤ left_of core pass
  pub underway : (pass : ℕ) → pass < core.start.shape.passes → (IsIdle core pass → ⊥) → HasCall core pass

-- what an order to a pass leaves: all others, and of the pass no less than the amount, and a call underway unless it rests
pub record Leaves (old new : CoreLog) (pass amount : ℕ) : Type 0 where
  pub start : new.start ≡ old.start
  pub left : left_of old pass ≤ left_of new pass + amount
  pub underway : (IsIdle new pass → ⊥) → HasCall new pass
  pub others : LeavesOthers old new pass

-- what doing an order gives, of which the fault, the answer and the steps are known: memory may run out at any time
abbrev pub Does : CoreLog → CoreLog → ℕ → Option PlayFault → LineAnswer → List Move → ℕ → Result LineAnswer PlayFault → Type 0
Does old new pass fault answer steps amount (Ok told) = (fault ≡ None) × (told ≡ answer) × (new ≡ with_moves old pass steps) × Leaves old new pass amount
Does old new pass fault answer steps amount (Err found) = (found ≡ NoMemory) ⊎ (fault ≡ Some found)

-- a result, seen in this way, is the one that is meant, unless memory ran out
abbrev pub Gives : {X Y : Type 0} → (X → Y) → Result X PlayFault → Result Y PlayFault → Type 0
Gives view (Ok x) meant = meant ≡ Ok (view x)
Gives view (Err found) meant = (found ≡ NoMemory) ⊎ (meant ≡ Err found)

-- a text, and what a run gives after it
abbrev pub onto : List ℕ → Result (List LineAnswer × ℕ) PlayFault → Result (List ℕ) PlayFault
onto text (Ok run) = Ok (text ++ answers_text run.0 run.1)
onto text (Err fault) = Err fault
