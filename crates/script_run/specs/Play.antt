-- What playing a script gives: each line is done on the core as the lines before have left it.
--     line_moves start s line, line_answer start s line      the steps of a line's pass, and what the line is answered
--     line_fault s line      why the line can't be done
--     fault_by rest at pass order      .. by which passes rest
--     play_lines core lines      the answers of the lines and the core after them, or the first fault
--     play_text script      the text that a script gives, or its fault
use Rattle.std.specs.Prelude.{ℕ, Bool, true, false, List, [], ◌∷◌, Option, Some, None, Result, Ok, Err, if◌then◌else◌}
use Rattle.std.specs.List.{range_with_len, find}
use Rattle.fn_model.specs.declared.Kind.TheVariants.{Add, Sub, Read}
use Rattle.fn_core.specs.declared.Start.{Start}
use Rattle.fn_core.specs.declared.Position.{Position}
use Rattle.fn_core.specs.declared.Position.TheVariants.{Resting}
use Rattle.fn_core.specs.declared.Move.{Move}
use Rattle.fn_core.specs.declared.answer.CoreBegun.{CoreBegun}
use Rattle.fn_core.specs.declared.answer.CoreBegun.TheVariants.{Waiting}
use Rattle.fn_core.specs.declared.answer.CoreBegun.TheVariants as begun_as
use Rattle.fn_core.specs.declared.answer.CoreStep.{CoreStep}
use Rattle.fn_core.specs.declared.answer.CoreStep.TheVariants.{Ready}
use Rattle.fn_core.specs.declared.answer.CoreStep.TheVariants as step_as
use Rattle.fn_core.specs.State.{State}
use Rattle.fn_core.specs.Machine.{no_cap}
use Rattle.fn_core.specs.Order.{next_move}
use Rattle.fn_core.specs.Polls.{most_steps, poll_moves, poll_answer}
use Rattle.fn_core.specs.Begin.{begin_moves, begun}
use Rattle.fn_core.specs.Calls.{CoreLog, state_in, with_moves, newly_opened, step_answer, own_moves}
use Rattle.script_text.specs.Sound.{allowances}
use Rattle.script_text.specs.declared.scripts.Order.{Order}
use Rattle.script_text.specs.declared.scripts.Order.TheVariants as order
use Rattle.script_text.specs.declared.scripts.Script.{Script}
use Rattle.script_text.specs.declared.scripts.ScriptLine.{ScriptLine}
use Rattle.script_run.specs.declared.lines.LineAnswer.{LineAnswer}
use Rattle.script_run.specs.declared.lines.LineAnswer.TheVariants.{Waits, NoRow, Going, Reply, NotYet, Met}
use Rattle.script_run.specs.declared.play.PlayFault.{PlayFault}
use Rattle.script_run.specs.declared.play.PlayFault.TheVariants.{Busy, NothingPending, Unfinished}
use Rattle.script_run.specs.Lines.{answers_text}

-- the steps of an order to a pass; a meeting has none
abbrev pub order_moves : Start → State → ℕ → Order → List Move
order_moves start s pass (order.Add n) = begin_moves start s pass Add n
order_moves start s pass (order.Sub n) = begin_moves start s pass Sub n
order_moves start s pass (order.Direct n) = own_moves start.cap Add n
order_moves start s pass (order.SubDirect n) = own_moves start.cap Sub n
order_moves start s pass order.Read = own_moves start.cap Read 0
order_moves start s pass order.Step = next_move start s pass ∷ []
order_moves start s pass order.Poll = poll_moves (most_steps start s pass) start s pass
order_moves start s pass (order.Meet q) = []

-- what a beginning is answered
abbrev pub begun_answer : CoreBegun → LineAnswer
begun_answer Waiting = Waits
begun_answer (begun_as.NoRow blocked) = NoRow blocked

-- what a step is answered
abbrev pub told_answer : CoreStep → LineAnswer
told_answer step_as.Going = Going
told_answer (Ready n) = Reply n
told_answer (step_as.NotYet why) = NotYet why

-- what an order is answered: a call that goes to the main word by itself meets that word
abbrev pub order_answer : Start → State → ℕ → Order → LineAnswer
order_answer start s pass (order.Add n) = begun_answer (begun start s pass Add)
order_answer start s pass (order.Sub n) = begun_answer (begun start s pass Sub)
order_answer start s pass (order.Direct n) = Reply s.main
order_answer start s pass (order.SubDirect n) = Reply s.main
order_answer start s pass order.Read = Reply s.main
order_answer start s pass order.Step = told_answer (step_answer start s pass)
order_answer start s pass order.Poll = told_answer (poll_answer (most_steps start s pass) start s pass)
order_answer start s pass (order.Meet q) = Met

-- whether a pass in this position makes no call
abbrev pub is_resting : Position → Bool
is_resting Resting = true
is_resting _ = false

abbrev pub rests : State → ℕ → Bool
rests s pass = is_resting (s.callers pass).position

-- a pass of the line that is in mid-call, by which passes rest
abbrev pub busy_by : (ℕ → Bool) → ℕ → ℕ → Option PlayFault
busy_by rest at pass = if rest pass then None else Some (Busy at pass)

-- a pass of the line that makes no call
abbrev pub idle_by : (ℕ → Bool) → ℕ → ℕ → Option PlayFault
idle_by rest at pass = if rest pass then Some (NothingPending at pass) else None

-- why an order can't be done now: a step and a poll want a call, and all others none
abbrev pub fault_by : (ℕ → Bool) → ℕ → ℕ → Order → Option PlayFault
fault_by rest at pass order.Step = idle_by rest at pass
fault_by rest at pass order.Poll = idle_by rest at pass
fault_by rest at pass (order.Meet q) = if rest pass then busy_by rest at q else Some (Busy at pass)
fault_by rest at pass _ = busy_by rest at pass

-- the least of so many passes that is in mid-call
abbrev pub least_busy : (ℕ → Bool) → ℕ → Option ℕ
least_busy rest passes = find (λ pass. if rest pass then false else true) (range_with_len 0 passes)

-- .. in a state of the core
abbrev pub busy : State → ℕ → ℕ → Option PlayFault
busy s at pass = busy_by (rests s) at pass

abbrev pub idle : State → ℕ → ℕ → Option PlayFault
idle s at pass = idle_by (rests s) at pass

abbrev pub order_fault : State → ℕ → ℕ → Order → Option PlayFault
order_fault s at pass order = fault_by (rests s) at pass order

abbrev pub unfinished : CoreLog → Option ℕ
unfinished core = least_busy (rests (state_in core)) core.start.shape.passes

-- the end of a script, at which each pass has to rest
abbrev pub finish : CoreLog → Option ℕ → Result (List LineAnswer × ℕ) PlayFault
finish core None = Ok ([], (state_in core).main)
finish core (Some pass) = Err (Unfinished pass)

-- an answer before those of further lines
abbrev pub answered : LineAnswer → Result (List LineAnswer × ℕ) PlayFault → Result (List LineAnswer × ℕ) PlayFault
answered answer (Ok more) = Ok (answer ∷ more.0, more.1)
answered answer (Err fault) = Err fault

-- the core after a line
abbrev pub after_line : CoreLog → ScriptLine → CoreLog
after_line core line = with_moves core line.pass (order_moves core.start (state_in core) line.pass line.order)

-- the answers of the lines and the value after them, or the first fault
abbrev pub play_lines : CoreLog → List ScriptLine → Result (List LineAnswer × ℕ) PlayFault
play_lines core [] = finish core (unfinished core)
play_lines core (line ∷ rest) = play_line core line (order_fault (state_in core) line.at line.pass line.order) (play_lines (after_line core line) rest)
  where
    play_line : CoreLog → ScriptLine → Option PlayFault → Result (List LineAnswer × ℕ) PlayFault → Result (List LineAnswer × ℕ) PlayFault
    play_line core line (Some fault) more = Err fault
    play_line core line None more = answered (order_answer core.start (state_in core) line.pass line.order) more

-- the core of a script at its opening, at which no addition stops
abbrev pub opened_core : Script → CoreLog
opened_core script = newly_opened script.shape script.opening no_cap (allowances script.lines script.shape.passes)

-- the text of what a run gives
abbrev pub run_text : Result (List LineAnswer × ℕ) PlayFault → Result (List ℕ) PlayFault
run_text (Ok run) = Ok (answers_text run.0 run.1)
run_text (Err fault) = Err fault

-- the text that a script gives, or its fault
abbrev pub play_text : Script → Result (List ℕ) PlayFault
play_text script = run_text (play_lines (opened_core script) script.lines)
