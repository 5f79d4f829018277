-- What the answers of a script's lines tell: there is one history of the calls that its lines make, and each reply is the integer just before its call in it.
--     asked pass number order      the call that an order asks for
--     calls_made calls lines answers      the calls that lines make, by their answers
--     AreMet cap opening history calls lines answers      each reply is the integer just before its call, at the call's place in the history
--     AreInTurn history calls earlier lines answers      each call stands in the history behind those that were answered before its line
--     IsAnswered script answers last history      a history of which the answers and the last value tell
--     TellsScript script text      the text tells of such a history
--     TellsInTurn script text      .. in which the calls stand in the order of their answers
use Rattle.std.specs.Prelude.{◌≡◌, ℕ, ◌-◌, ◌<◌, List, [], ◌∷◌, ◌++◌, length, drop, Some}
use Rattle.std.specs.List.{All}
use Rattle.fn_model.specs.declared.Call.{Call}
use Rattle.fn_model.specs.declared.Kind.TheVariants.{Add, Sub, Read}
use Rattle.fn_model.specs.Calls.{own, place}
use Rattle.fn_model.specs.Integer.{value, Meets}
use Rattle.fn_core.specs.Machine.{no_cap}
use Rattle.script_text.specs.declared.scripts.Order.{Order}
use Rattle.script_text.specs.declared.scripts.Order.TheVariants as order
use Rattle.script_text.specs.declared.scripts.Script.{Script}
use Rattle.script_text.specs.declared.scripts.ScriptLine.{ScriptLine}
use Rattle.script_run.specs.declared.lines.LineAnswer.{LineAnswer}
use Rattle.script_run.specs.declared.lines.LineAnswer.TheVariants.{NoRow, Reply, Lost}
use Rattle.script_run.specs.Lines.{answers_text}

-- the call that an order to a pass asks for, by its number among the pass's calls; a step, a poll and a meeting ask for none
abbrev pub asked : ℕ → ℕ → Order → List Call
asked pass number (order.Add n) = record { pass = pass; number = number; kind = Add; amount = n } ∷ []
asked pass number (order.Sub n) = record { pass = pass; number = number; kind = Sub; amount = n } ∷ []
asked pass number (order.Direct n) = record { pass = pass; number = number; kind = Add; amount = n } ∷ []
asked pass number (order.SubDirect n) = record { pass = pass; number = number; kind = Sub; amount = n } ∷ []
asked pass number order.Read = record { pass = pass; number = number; kind = Read; amount = 0 } ∷ []
asked pass number _ = []

-- the call that a line makes after these calls: the next one of its pass, and none where no row was free or a direct subtraction lost
abbrev pub made_by : List Call → ScriptLine → LineAnswer → List Call
made_by calls line (NoRow blocked) = []
made_by calls line (Lost loaded found) = []
made_by calls line _ = asked line.pass (length (own line.pass calls)) line.order

-- the calls that lines with these answers make, behind those of earlier lines
abbrev pub calls_made : List Call → List ScriptLine → List LineAnswer → List Call
calls_made calls (line ∷ lines) (answer ∷ answers) = calls_made (calls ++ made_by calls line answer) lines answers
calls_made calls _ _ = calls

-- a reply to a pass that has made these calls is the integer just before the last of them, at that call's place in the history
abbrev pub IsMet : ℕ → ℕ → List Call → List Call → LineAnswer → Type 0
IsMet cap opening history mine (Reply n) = (earlier : List Call) × (call : Call) × (mine ≡ earlier ++ call ∷ []) × Meets cap opening history call n
IsMet cap opening history mine _ = Unit {0}

-- .. and so is the reply to each of these lines, after lines that have made these calls
abbrev pub AreMet : ℕ → ℕ → List Call → List Call → List ScriptLine → List LineAnswer → Type 0
AreMet cap opening history calls [] [] = Unit {0}
AreMet cap opening history calls (line ∷ lines) (answer ∷ answers) =
    let now = calls ++ made_by calls line answer in IsMet cap opening history (own line.pass now) answer × AreMet cap opening history now lines answers
AreMet cap opening history calls _ _ = ⊥

-- the call whose reply an answer tells: the last one of its pass, where it is a reply
abbrev pub answered_by : List Call → LineAnswer → List Call
answered_by mine (Reply n) = drop (length mine - 1) mine
answered_by mine _ = []

-- the first call stands before the second in the history, where both stand there
abbrev pub StandsBefore : List Call → Call → Call → Type 0
StandsBefore history first second = (i j : ℕ) → place first.pass first.number history ≡ Some i → place second.pass second.number history ≡ Some j → i < j

-- each call stands in the history behind those that were answered before its line
abbrev pub AreInTurn : List Call → List Call → List Call → List ScriptLine → List LineAnswer → Type 0
AreInTurn history calls earlier (line ∷ lines) (answer ∷ answers) =
    let made = made_by calls line answer in
    let now = calls ++ made in
    All (λ call. All (λ other. StandsBefore history other call) earlier) made × AreInTurn history now (earlier ++ answered_by (own line.pass now) answer) lines answers
AreInTurn history calls earlier _ _ = Unit {0}

-- A history of a script whose lines were answered so: each reply is what its call meets in it, each pass's calls stand in it in the order of its lines, there are no others, and they leave this value
pub record IsAnswered (script : Script) (answers : List LineAnswer) (last : ℕ) (history : List Call) : Type 0 where
  pub met : AreMet no_cap script.opening history [] script.lines answers
  pub made : (pass : ℕ) → own pass history ≡ own pass (calls_made [] script.lines answers)
  pub value_is : last ≡ value no_cap script.opening history

-- the text tells the answers and the value of such a history
abbrev pub TellsScript : Script → List ℕ → Type 0
TellsScript script text = (answers : List LineAnswer) × (last : ℕ) × (history : List Call) × IsAnswered script answers last history × (text ≡ answers_text answers last)

-- .. in which each call stands behind those that were answered before its line
abbrev pub TellsInTurn : Script → List ℕ → Type 0
TellsInTurn script text =
    (answers : List LineAnswer) × (last : ℕ) × (history : List Call) × IsAnswered script answers last history × AreInTurn history [] [] script.lines answers × (text ≡ answers_text answers last)
