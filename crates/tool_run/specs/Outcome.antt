-- How a run of the tool ends: what it read and wrote, its status, and its line on standard error. How it came to that, and the books that it hands back, are told in Accounts.
--     Input, Output      what a run sees of its source, and of the sink for its text
--     of_scripts asked      the command that is asked for, where it is one on scripts
--     Reads command input bytes      what a command reads
--     Tells command bytes text answers      the text of a command
--     Refuses command bytes why      why a command can't have its text
--     Ends asked input output answers ending      what each ending means
--     IsComplete asked input output outcome      a run whose input is accepted is done
--     status_of ending, error_line ending      its status, and its line on standard error
use Rattle.std.specs.Prelude.{◌≡◌, ◌⊎◌, All, ℕ, ◌+◌, ◌<◌, ◌≤◌, ◌++◌, List, [], length, Option, Some, None, Ok, Err, codes, decimal, sum_by}
use Rattle.std.specs.Io.KnownBytes.{Consumes, Appends, IsAtEnd}
use Rattle.edge_io.specs.Causes.{Rose}
use Rattle.edge_io.specs.Whole.{AppendsPart}
use Rattle.fn_model.specs.declared.Call.{Call}
use Rattle.fn_layout.specs.declared.shape.ShapeFault.{ShapeFault}
use Rattle.fn_layout.specs.declared.shape.ShapeFault.TheVariants as shape
use Rattle.quota_pool.specs.declared.moved.Moved.{Moved}
use Rattle.trace_text.specs.Drill.{drill, drill_rows, total_taken}
use Rattle.script_text.specs.Script.{content, script_of}
use Rattle.trace_text.specs.Trace.{Content, added}
use Rattle.trace_text.specs.TraceGrammar.{IsTrace}
use Rattle.trace_text.specs.TraceLaws as trace_fault
use Rattle.trace_text.specs.Records.{records_of}
use Rattle.script_text.specs.declared.scripts.Script.{Script}
use Rattle.script_text.specs.declared.scripts.ScriptFault.{ScriptFault}
use Rattle.script_text.specs.declared.scripts.ScriptFault.TheVariants as script
use Rattle.trace_text.specs.declared.traces.Row.{Row}
use Rattle.trace_text.specs.declared.traces.TraceFault.{TraceFault}
use Rattle.trace_text.specs.declared.traces.TraceFault.TheVariants as trace
use Rattle.replay_run.specs.Claim.{TellsReplay}
use Rattle.fn_rounds.specs.Script.{IsChangeOrder, TellsRounds, other_order}
use Rattle.fn_spread.specs.Tally.{draws_in, newlines_in, tally_line}
use Rattle.tick_table.specs.declared.entry.Entry.{Entry}
use Rattle.throttle_run.specs.Faults.{IsFirstFault}
use Rattle.throttle_run.specs.Grammar.{SpellsTakes}
use Rattle.throttle_run.specs.Throttled.{TellsText}
use Rattle.throttle_run.specs.declared.faults.ThrottleFault.{ThrottleFault}
use Rattle.throttle_run.specs.declared.faults.ThrottleFault.TheVariants as takes
use Rattle.throttle_run.specs.declared.lines.ThrottleLine.{ThrottleLine}
use Rattle.text_lines.specs.Text.{lines}
use Rattle.relay_run.specs.Lines.{lines_of}
use Rattle.relay_run.specs.Claim.{TellsRelay}
use Rattle.relay_run.specs.declared.lines.TheConstants.{MOST_LINES}
use Rattle.replay_report.specs.Report.{report_text, summary_line}
use Rattle.tool_words.specs.declared.commands.Command.{Command}
use Rattle.tool_words.specs.declared.commands.Command.TheVariants.{Play, Trial, Replay, Drill, Relay, Rounds, Tally, Throttle}
use Rattle.script_run.specs.Answered.{TellsInTurn, TellsScript}
use Rattle.script_run.specs.Play.{play_text}
use Rattle.tool_run.specs.declared.ending.Ending.{Ending}
use Rattle.tool_run.specs.declared.ending.Ending.TheVariants.{Done, Words, Refused, ReadFailed, WriteFailed, WriteStuck, NoMemory}
use Rattle.tool_run.specs.declared.ending.Refusal.{Refusal}
use Rattle.tool_run.specs.declared.ending.Refusal.TheVariants.{TooLong, ByScript, ByPlay, ByTrace, TooManyLines, ByOrder, ByThrottle}
use Rattle.tool_run.specs.declared.ending.TheConstants.{INPUT_LIMIT}
use Rattle.script_run.specs.declared.play.PlayFault.{PlayFault}
use Rattle.script_run.specs.declared.play.PlayFault.TheVariants as play
use Rattle.tool_run.specs.declared.runs.Outcome.{Outcome}

-- what a run sees of its source, before and after
pub record Input : Type 0 where
  pub left : Option (List ℕ)
  pub left_then : Option (List ℕ)
  pub faults : ℕ
  pub faults_then : ℕ

-- .. and of the sink for its text
pub record Output : Type 0 where
  pub held : Option (List ℕ)
  pub held_then : Option (List ℕ)
  pub faults : ℕ
  pub faults_then : ℕ
  pub empty : ℕ
  pub empty_then : ℕ

abbrev pub reading : Option (List ℕ) → Option (List ℕ) → ℕ → ℕ → Input
reading left left_then faults faults_then = record { left = left; left_then = left_then; faults = faults; faults_then = faults_then }

abbrev pub writing : Option (List ℕ) → Option (List ℕ) → ℕ → ℕ → ℕ → ℕ → Output
writing held held_then faults faults_then empty empty_then =
    record { held = held; held_then = held_then; faults = faults; faults_then = faults_then; empty = empty; empty_then = empty_then }

-- the command that is asked for, where it is one on scripts
abbrev pub of_scripts : Option Command → Option Command
of_scripts (Some Play) = Some Play
of_scripts (Some Trial) = Some Trial
of_scripts _ = None

-- nothing was read
abbrev pub ReadsNothing : Input → Type 0
ReadsNothing input = (input.left_then ≡ input.left) × (input.faults_then ≡ input.faults)

-- the source was read to its end, and gave these bytes
abbrev pub ReadsAll : Input → List ℕ → Type 0
ReadsAll input bytes = Consumes input.left input.left_then bytes × IsAtEnd input.left_then × (length bytes ≤ INPUT_LIMIT)

-- the source gave some bytes, no more than may be read
abbrev pub ReadsSome : Input → Type 0
ReadsSome input = (bytes : List ℕ) × Consumes input.left input.left_then bytes × (length bytes ≤ INPUT_LIMIT)

-- whether a command has input: a drill has none
abbrev pub HasInput : Command → Type 0
HasInput (Drill seed rows workers) = ⊥
HasInput _ = Unit {0}

-- what a command reads
abbrev pub Reads : Command → Input → List ℕ → Type 0
Reads (Drill seed rows workers) input bytes = ReadsNothing input
Reads _ input bytes = ReadsAll input bytes

-- nothing was written
abbrev pub WritesNothing : Output → Type 0
WritesNothing output = output.held_then ≡ output.held

-- a text was written, or a front of it that isn't all
abbrev pub Writes : Output → List ℕ → Ending → Type 0
Writes output text Done = Appends output.held output.held_then text
Writes output text WriteFailed = AppendsPart output.held output.held_then text × Rose output.faults output.faults_then
Writes output text WriteStuck = AppendsPart output.held output.held_then text × Rose output.empty output.empty_then
Writes output text _ = ⊥

-- what rows can add together
abbrev pub total_added : List Row → ℕ
total_added rows = sum_by (λ row. added row.op row.amount) rows

-- the line of a drill: each row moves its whole amount, and what is taken was there from the start
abbrev pub drill_line : ℕ → ℕ → ℕ → List ℕ
drill_line seed rows workers =
    let all = drill_rows seed rows workers in summary_line rows workers (total_taken all) (total_added all) (total_taken all) (total_added all)

-- a script of additions and subtractions alone
abbrev pub HasChanges : Script → Type 0
HasChanges script = All (λ line. IsChangeOrder line.order) script.lines

-- the text of a command from the bytes that it read, and the answers that are handed back; where it tells of a history, there is one of which it is true
abbrev pub Tells : Command → List ℕ → List ℕ → List Moved → Type 0
Tells Play bytes text answers = (s : Script) × (script_of bytes ≡ Ok (content s)) × TellsInTurn s text × (answers ≡ [])
Tells Trial bytes text answers = (s : Script) × (script_of bytes ≡ Ok (content s)) × TellsScript s text × (answers ≡ [])
Tells (Replay workers) bytes text answers = (t : Content) × (finals : List ℕ) × IsTrace workers (records_of bytes) t × TellsReplay t answers finals × (text ≡ report_text t answers finals)
Tells (Drill seed rows workers) bytes text answers = (finals : List ℕ) × TellsReplay (drill seed rows workers) answers finals × (text ≡ drill_line seed rows workers)
Tells (Relay workers capacity) bytes text answers = (length (lines_of bytes) ≤ MOST_LINES) × TellsRelay workers (lines_of bytes) text × (answers ≡ [])
Tells Rounds bytes text answers = (s : Script) × (history : List Call) × (script_of bytes ≡ Ok (content s)) × HasChanges s × TellsRounds s text history × (answers ≡ [])
Tells (Tally workers grain) bytes text answers = (text ≡ tally_line (newlines_in bytes) (length bytes) (draws_in workers grain (length bytes))) × (answers ≡ [])
Tells (Throttle workers burst rate period) bytes text answers = (tokens : List Call) × (ticks : List Entry) × TellsText workers burst rate period bytes text tokens ticks × (answers ≡ [])

-- why bytes are no script, or are one that can't be done
abbrev pub RefusesScript : List ℕ → Refusal → Type 0
RefusesScript bytes (ByScript fault) = script_of bytes ≡ Err fault
RefusesScript bytes (ByPlay fault) = (s : Script) × (script_of bytes ≡ Ok (content s))
RefusesScript bytes _ = ⊥

-- why bytes are no trace
abbrev pub RefusesTrace : ℕ → List ℕ → Refusal → Type 0
RefusesTrace workers bytes (ByTrace fault) = trace_fault.IsFirstFault workers (records_of bytes) fault
RefusesTrace workers bytes _ = ⊥

-- why lines aren't relayed: there is one more than may be, which is told
abbrev pub RefusesLines : List ℕ → Refusal → Type 0
RefusesLines bytes (TooManyLines at) = (MOST_LINES < length (lines_of bytes)) × (at ≡ MOST_LINES + 1)
RefusesLines bytes _ = ⊥

-- why bytes are no script of additions and subtractions: the first line with another order is told
abbrev pub RefusesOrders : List ℕ → Refusal → Type 0
RefusesOrders bytes (ByScript fault) = script_of bytes ≡ Err fault
RefusesOrders bytes (ByOrder at) = (s : Script) × (script_of bytes ≡ Ok (content s)) × (other_order s.lines ≡ Some at)
RefusesOrders bytes _ = ⊥

-- why bytes are no text of takes: the first fault of the first line that is at fault is told
abbrev pub RefusesTakes : ℕ → ℕ → List ℕ → Refusal → Type 0
RefusesTakes workers burst bytes (ByThrottle fault) = IsFirstFault workers burst (lines bytes) fault
RefusesTakes workers burst bytes _ = ⊥

-- why a command can't have its text
abbrev pub Refuses : Command → List ℕ → Refusal → Type 0
Refuses Play bytes why = RefusesScript bytes why
Refuses Trial bytes why = RefusesScript bytes why
Refuses (Replay workers) bytes why = RefusesTrace workers bytes why
Refuses (Drill seed rows workers) bytes why = ⊥
Refuses (Relay workers capacity) bytes why = RefusesLines bytes why
Refuses Rounds bytes why = RefusesOrders bytes why
Refuses (Tally workers grain) bytes why = ⊥
Refuses (Throttle workers burst rate period) bytes why = RefusesTakes workers burst bytes why

-- a command that refuses its input has read it, but for input that is too long to its end
abbrev pub IsRefused : Command → Input → Refusal → Type 0
IsRefused command input TooLong = HasInput command × (bytes : List ℕ) × Consumes input.left input.left_then bytes × (INPUT_LIMIT < length bytes)
IsRefused command input why = (bytes : List ℕ) × Reads command input bytes × Refuses command bytes why

-- how a run ends that has no text
abbrev pub Stops : Option Command → Input → Ending → Type 0
Stops asked input Words = (asked ≡ None) × ReadsNothing input
Stops asked input (Refused why) = (command : Command) × (asked ≡ Some command) × IsRefused command input why
Stops asked input ReadFailed = (command : Command) × (asked ≡ Some command) × HasInput command × ReadsSome input × Rose input.faults input.faults_then
Stops asked input NoMemory = Unit {0}
Stops asked input _ = ⊥

-- a run had its text, and wrote it, or a front of it
abbrev pub HasText : Option Command → Input → Output → List Moved → Ending → Type 0
HasText asked input output answers ending =
    (command : Command) × (bytes text : List ℕ) × (asked ≡ Some command) × Reads command input bytes × Tells command bytes text answers × Writes output text ending

-- a run had no text, wrote nothing, and hands no answers back
abbrev pub HasNoText : Option Command → Input → Output → List Moved → Ending → Type 0
HasNoText asked input output answers ending = Stops asked input ending × WritesNothing output × (answers ≡ [])

-- what each ending means
abbrev pub Ends : Option Command → Input → Output → List Moved → Ending → Type 0
Ends asked input output answers Done = HasText asked input output answers Done
Ends asked input output answers WriteFailed = HasText asked input output answers WriteFailed
Ends asked input output answers WriteStuck = HasText asked input output answers WriteStuck
Ends asked input output answers ending = HasNoText asked input output answers ending

-- bytes in which a command finds no fault: a script that plays to an end, a script, a trace, lines, a script of additions and subtractions, lines of takes, or any
abbrev pub IsAccepted : Command → List ℕ → Type 0
IsAccepted Play bytes = (s : Script) × (text : List ℕ) × (script_of bytes ≡ Ok (content s)) × (play_text s ≡ Ok text)
IsAccepted Trial bytes = (s : Script) × (script_of bytes ≡ Ok (content s))
IsAccepted (Replay workers) bytes = (t : Content) × IsTrace workers (records_of bytes) t
IsAccepted (Drill seed rows workers) bytes = Unit {0}
IsAccepted (Relay workers capacity) bytes = length (lines_of bytes) ≤ MOST_LINES
IsAccepted Rounds bytes = (s : Script) × (script_of bytes ≡ Ok (content s)) × HasChanges s
IsAccepted (Tally workers grain) bytes = Unit {0}
IsAccepted (Throttle workers burst rate period) bytes = (items : List ThrottleLine) × SpellsTakes workers burst (lines bytes) items

-- a command finds no fault in what a source has left
abbrev pub Accepts : Command → Option (List ℕ) → Type 0
Accepts (Drill seed rows workers) left = Unit {0}
Accepts command left = (bytes : List ℕ) × (left ≡ Some bytes) × (length bytes ≤ INPUT_LIMIT) × IsAccepted command bytes

-- no count rose
abbrev pub IsCalm : Input → Output → Type 0
IsCalm input output = (Rose input.faults input.faults_then → ⊥) × (Rose output.faults output.faults_then → ⊥) × (Rose output.empty output.empty_then → ⊥)

-- a run whose words and input are accepted, in which no count rose and no line of a script on the table couldn't be done, is done, but for want of memory
abbrev pub IsComplete : Option Command → Input → Output → Outcome → Type 0
IsComplete asked input output outcome =
    (command : Command) → asked ≡ Some command → Accepts command input.left → IsCalm input output → outcome.halted.items ≡ [] → (outcome.status ≡ 0) ⊎ (outcome.status ≡ 6)

-- the status of an ending
abbrev pub status_of : Ending → ℕ
status_of Done = 0
status_of Words = 2
status_of (Refused why) = 3
status_of ReadFailed = 4
status_of WriteFailed = 5
status_of WriteStuck = 5
status_of NoMemory = 6

-- a fault of the shape
abbrev pub shape_text : ShapeFault → List ℕ
shape_text (shape.Passes n) = codes "shape passes " ++ decimal n
shape_text (shape.Leaves n) = codes "shape leaves " ++ decimal n
shape_text (shape.Levels n) = codes "shape levels " ++ decimal n
shape_text (shape.Rows n) = codes "shape rows " ++ decimal n

-- a fault of a script
abbrev pub script_text : ScriptFault → List ℕ
script_text (script.Header at) = codes "header at " ++ decimal at
script_text (script.Shape fault) = shape_text fault
script_text (script.Fields at) = codes "fields at " ++ decimal at
script_text (script.Pass at) = codes "pass at " ++ decimal at
script_text (script.Op at) = codes "op at " ++ decimal at
script_text (script.Amount at) = codes "amount at " ++ decimal at
script_text (script.TooMany at) = codes "too many at " ++ decimal at
script_text (script.Total at) = codes "total at " ++ decimal at
script_text script.NoMemory = codes "no memory"

-- a fault of a trace
abbrev pub trace_text : TraceFault → List ℕ
trace_text (trace.Header at) = codes "header at " ++ decimal at
trace_text (trace.Fields at) = codes "fields at " ++ decimal at
trace_text (trace.Worker at) = codes "worker at " ++ decimal at
trace_text (trace.Op at) = codes "op at " ++ decimal at
trace_text (trace.Tenant at) = codes "tenant at " ++ decimal at
trace_text (trace.Amount at) = codes "amount at " ++ decimal at
trace_text (trace.Again at) = codes "again at " ++ decimal at
trace_text (trace.Unknown at) = codes "unknown at " ++ decimal at
trace_text (trace.TooMany at) = codes "too many at " ++ decimal at
trace_text (trace.Total at) = codes "total at " ++ decimal at
trace_text trace.NoMemory = codes "no memory"
trace_text (trace.Cap at) = codes "cap at " ++ decimal at

-- why a script can't be played
abbrev pub play_fault_text : PlayFault → List ℕ
play_fault_text (play.Busy at pass) = codes "busy at " ++ decimal at ++ codes " pass " ++ decimal pass
play_fault_text (play.NothingPending at pass) = codes "nothing pending at " ++ decimal at ++ codes " pass " ++ decimal pass
play_fault_text (play.Unfinished pass) = codes "unfinished pass " ++ decimal pass
play_fault_text play.NoMemory = codes "no memory"

-- a fault of a text of takes
abbrev pub takes_text : ThrottleFault → List ℕ
takes_text (takes.Fields at) = codes "fields at " ++ decimal at
takes_text (takes.Worker at) = codes "worker at " ++ decimal at
takes_text (takes.Amount at) = codes "amount at " ++ decimal at
takes_text (takes.TooMany at) = codes "too many at " ++ decimal at
takes_text (takes.Total at) = codes "total at " ++ decimal at
takes_text takes.NoMemory = codes "no memory"

-- why input is refused
abbrev pub refusal_text : Refusal → List ℕ
refusal_text TooLong = codes "too long"
refusal_text (ByScript fault) = script_text fault
refusal_text (ByTrace fault) = trace_text fault
refusal_text (TooManyLines at) = codes "too many at " ++ decimal at
refusal_text (ByPlay fault) = play_fault_text fault
refusal_text (ByOrder at) = codes "op at " ++ decimal at
refusal_text (ByThrottle fault) = takes_text fault

-- the line of an ending on standard error
abbrev pub error_line : Ending → List ℕ
error_line Done = []
error_line Words = codes "usage: funnel_tool play | trial | replay WORKERS | drill SEED ROWS WORKERS | relay WORKERS CAPACITY | rounds | tally WORKERS GRAIN | throttle WORKERS BURST RATE PERIOD\n"
error_line (Refused why) = codes "refused: " ++ refusal_text why ++ codes "\n"
error_line ReadFailed = codes "read failed\n"
error_line WriteFailed = codes "write failed\n"
error_line WriteStuck = codes "write stuck\n"
error_line NoMemory = codes "no memory\n"
