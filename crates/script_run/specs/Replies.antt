-- What playing a script on the core comes to.
--     played core lines      the core after all lines
--     history_of script      the calls in the order in which they have entered the main word
--     IsRun script answers last, IsRunText script text      what a script's run gives: its answers and its value
--     RepliesAreMet      the law of all scripts
use Rattle.std.specs.Prelude.{◌≡◌, ℕ, List, [], ◌∷◌, Ok}
use Rattle.fn_model.specs.declared.Call.{Call}
use Rattle.fn_core.specs.Calls.{CoreLog, calls_in}
use Rattle.script_text.specs.Sound.{IsSound}
use Rattle.script_text.specs.declared.scripts.Script.{Script}
use Rattle.script_text.specs.declared.scripts.ScriptLine.{ScriptLine}
use Rattle.script_run.specs.declared.lines.LineAnswer.{LineAnswer}
use Rattle.script_run.specs.Answered.{AreInTurn, IsAnswered}
use Rattle.script_run.specs.Lines.{answers_text}
use Rattle.script_run.specs.Play.{after_line, opened_core, play_lines}

-- the core after all lines
abbrev pub played : CoreLog → List ScriptLine → CoreLog
played core [] = core
played core (line ∷ lines) = played (after_line core line) lines

-- the calls that have entered the main word when all lines of a script are done, in order
abbrev pub history_of : Script → List Call
history_of script = calls_in (played (opened_core script) script.lines)

-- what the run of a script gives: these answers, of which the history of the core tells, its value, and calls that stand in the order of their answers
pub record IsRun (script : Script) (answers : List LineAnswer) (last : ℕ) : Type 0 where
  pub plays : play_lines (opened_core script) script.lines ≡ Ok (answers, last)
  pub told : IsAnswered script answers last (history_of script)
  pub in_turn : AreInTurn (history_of script) [] [] script.lines answers

-- the text is that of such a run
abbrev pub IsRunText : Script → List ℕ → Type 0
IsRunText script text = (answers : List LineAnswer) × (last : ℕ) × IsRun script answers last × (text ≡ answers_text answers last)

-- so it is for each sound script that can be played
abbrev pub RepliesAreMet : Type 0
RepliesAreMet = (script : Script) (answers : List LineAnswer) (last : ℕ) → IsSound script → play_lines (opened_core script) script.lines ≡ Ok (answers, last) → IsRun script answers last
