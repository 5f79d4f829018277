-- The text of each answer.
use Rattle.std.specs.Prelude.{ℕ, List, ◌++◌, codes, decimal, flat_map}
use Rattle.fn_core.specs.declared.answer.Why.{Why}
use Rattle.fn_core.specs.declared.answer.Why.TheVariants.{Behind, Lost}
use Rattle.script_run.specs.declared.lines.LineAnswer.{LineAnswer}
use Rattle.script_run.specs.declared.lines.LineAnswer.TheVariants.{Waits, NoRow, Going, Reply, NotYet, Met}
use Rattle.script_run.specs.declared.lines.LineAnswer.TheVariants as answer

-- two numbers
abbrev pub pair_text : ℕ → ℕ → List ℕ
pair_text a b = decimal a ++ codes " " ++ decimal b

-- the word that was loaded, and the one that the exchange found
abbrev pub lost_text : ℕ → ℕ → List ℕ
lost_text loaded found = codes "lost " ++ pair_text loaded found

-- why a call has to wait
abbrev pub why_text : Why → List ℕ
why_text (Behind done at) = codes "behind " ++ pair_text done at
why_text (Lost loaded found) = lost_text loaded found

-- an answer
abbrev pub answer_text : LineAnswer → List ℕ
answer_text Waits = codes "waits"
answer_text (NoRow blocked) = codes "norow " ++ pair_text blocked.level blocked.row ++ codes " " ++ pair_text blocked.pass blocked.announced
answer_text Going = codes "going"
answer_text (Reply n) = codes "reply " ++ decimal n
answer_text (NotYet why) = codes "notyet " ++ why_text why
answer_text (answer.Lost loaded found) = lost_text loaded found
answer_text Met = codes "met"

-- an answer's line
abbrev pub answer_line : LineAnswer → List ℕ
answer_line answer = answer_text answer ++ codes "\n"

-- the last line, which gives the value
abbrev pub value_line : ℕ → List ℕ
value_line n = codes "value " ++ decimal n ++ codes "\n"

-- the lines of some answers and of the value
abbrev pub answers_text : List LineAnswer → ℕ → List ℕ
answers_text answers value = flat_map answer_line answers ++ value_line value
