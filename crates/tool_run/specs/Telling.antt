-- What the parts of a run give to each other: the bytes that were read, a text or how the run ends without one, and the outcome.
use Rattle.std.specs.Prelude.{◌≡◌, ℕ, ◌<◌, List, [], length, Option, Some, Result, Ok, Err, Vec}
use Rattle.std.specs.declared.alloc.Global.{Global}
use Rattle.std.specs.Io.KnownBytes.{Consumes}
use Rattle.edge_io.specs.Causes.{Rose}
use Rattle.fn_core.specs.Calls.{CoreLog}
use Rattle.script_text.specs.Script.{script_of, content}
use Rattle.script_text.specs.Sound.{IsSound}
use Rattle.script_text.specs.declared.scripts.Script.{Script}
use Rattle.tool_words.specs.declared.commands.Command.{Command}
use Rattle.tool_run.specs.Handed.{handed, handed_by, nothing, one_book}
use Rattle.tool_run.specs.Accounts.{Accounts, RefusesWith, StopsWith}
use Rattle.tool_run.specs.Outcome.{Input, Output, Reads, ReadsAll, ReadsSome, Refuses, Stops, Writes, WritesNothing}
use Rattle.tool_run.specs.declared.ending.Ending.{Ending}
use Rattle.tool_run.specs.declared.ending.Ending.TheVariants.{Refused, ReadFailed, NoMemory}
use Rattle.tool_run.specs.declared.ending.Refusal.TheVariants.{TooLong, ByScript}
use Rattle.tool_run.specs.declared.ending.TheConstants.{INPUT_LIMIT}
use Rattle.tool_run.specs.declared.runs.Outcome.{Outcome}
use Rattle.tool_run.specs.declared.telling.Told.{Told}
use Rattle.tool_run.specs.declared.telling.Untold.{Untold}
use Rattle.script_run.specs.declared.trial.Caller.{Caller}

-- bytes that are no script, or memory ran out
abbrev pub IsUnread : List ℕ → Ending → List Caller → Type 0
IsUnread bytes (Refused (ByScript fault)) callers = (script_of bytes ≡ Err fault) × (callers ≡ [])
IsUnread bytes NoMemory callers = callers ≡ []
IsUnread bytes _ callers = ⊥

-- the script that bytes spell
abbrev pub HasScript : List ℕ → Result Script Untold → Type 0
HasScript bytes (Ok script) = (script_of bytes ≡ Ok (content script)) × IsSound script
HasScript bytes (Err untold) = IsUnread bytes untold.ending untold.halted.items

-- a text with one book, unless memory ran out
abbrev pub HasBook : List ℕ → CoreLog → Result Told Untold → Type 0
HasBook text book (Ok told) = (told.text.items ≡ text) × (handed told.handed ≡ one_book book)
HasBook text book (Err untold) = (untold.ending ≡ NoMemory) × (untold.halted.items ≡ [])

-- input that was read has no text: it is refused, or memory ran out
abbrev pub CantTell : Command → List ℕ → Ending → List Caller → Type 0
CantTell command bytes (Refused why) callers = Refuses command bytes why × RefusesWith command bytes why callers
CantTell command bytes NoMemory callers = callers ≡ []
CantTell command bytes _ callers = ⊥

-- the text of a command with this input
abbrev pub IsTelling : Command → List ℕ → Result Told Untold → Type 0
IsTelling command bytes (Ok told) = Accounts command bytes told.text.items (handed told.handed)
IsTelling command bytes (Err untold) = CantTell command bytes untold.ending untold.halted.items

-- input that wasn't read
abbrev pub CantRead : Input → Ending → Type 0
CantRead input (Refused TooLong) = (bytes : List ℕ) × Consumes input.left input.left_then bytes × (INPUT_LIMIT < length bytes)
CantRead input ReadFailed = ReadsSome input × Rose input.faults input.faults_then
CantRead input NoMemory = Unit {0}
CantRead input _ = ⊥

-- the bytes of the input
abbrev pub HasRead : Input → Result (Vec ℕ Global) Untold → Type 0
HasRead input (Ok bytes) = ReadsAll input bytes.items
HasRead input (Err untold) = CantRead input untold.ending × (untold.halted.items ≡ [])

-- the text of what is asked for, from its input
abbrev pub IsPrepared : Option Command → Input → Result Told Untold → Type 0
IsPrepared asked input (Ok told) = (command : Command) × (bytes : List ℕ) × (asked ≡ Some command) × Reads command input bytes × Accounts command bytes told.text.items (handed told.handed)
IsPrepared asked input (Err untold) = Stops asked input untold.ending × StopsWith asked input untold.ending untold.halted.items

-- what was prepared is written and handed back
abbrev pub Finishes : Result Told Untold → Output → Outcome → Ending → Type 0
Finishes (Ok told) output outcome ending =
    Writes output told.text.items ending × (handed_by outcome ≡ handed told.handed) × (outcome.halted.items ≡ [])
Finishes (Err untold) output outcome ending =
    (ending ≡ untold.ending) × WritesNothing output × (handed_by outcome ≡ nothing) × (outcome.halted.items ≡ untold.halted.items)
