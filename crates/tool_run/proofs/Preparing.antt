-- From what the parts of a run give to how it ends.
use Rattle.std.proofs.Common.{◌≡◌, ℕ, List, [], Option, Some, Result, Ok, Err, refl, ap}
use Rattle.fn_core.specs.Calls.{CoreLog, calls_in}
use Rattle.fn_rounds.specs.Script.{IsBookOf, TellsRounds}
use Rattle.script_text.specs.Script.{script_of, content}
use Rattle.trace_text.specs.TraceLaws.{IsFirstFault, IsRefusedFor}
use Rattle.script_text.specs.declared.scripts.Script.{Script}
use Rattle.trace_text.specs.declared.traces.TraceFault.{TraceFault}
use Rattle.trace_text.specs.declared.traces.TraceFault.TheVariants as trace
use Rattle.tool_words.specs.declared.commands.Command.{Command}
use Rattle.tool_words.specs.declared.commands.Command.TheVariants.{Play, Trial, Replay, Drill, Relay, Rounds, Tally, Throttle}
use Rattle.tool_run.specs.Accounts.{HasTallied, IsAccounted, RefusesWith, StopsWith}
use Rattle.tool_run.specs.Handed.{HandedBack, handed_by, nothing}
use Rattle.tool_run.specs.Outcome.{Ends, HasChanges, HasInput, Input, IsRefused, Output, Reads, Refuses, Stops, WritesNothing}
use Rattle.tool_run.specs.Telling.{CantRead, CantTell, Finishes, HasBook, IsPrepared, IsTelling}
use Rattle.script_run.specs.Trial.{TellsTrial}
use Rattle.tool_run.specs.declared.ending.Ending.{Ending}
use Rattle.tool_run.specs.declared.ending.Ending.TheVariants.{Done, Words, Refused, ReadFailed, WriteFailed, WriteStuck, NoMemory}
use Rattle.tool_run.specs.declared.ending.Refusal.{Refusal}
use Rattle.tool_run.specs.declared.ending.Refusal.TheVariants.{TooLong, ByScript, ByPlay, ByTrace, TooManyLines, ByOrder, ByThrottle}
use Rattle.tool_run.specs.declared.runs.Outcome.{Outcome}
use Rattle.tool_run.specs.declared.telling.Told.{Told}
use Rattle.tool_run.specs.declared.telling.Untold.{Untold}
use Rattle.script_run.specs.declared.trial.Caller.{Caller}
use Rattle.tool_run.proofs.Claimed.{tells}

-- no bytes that were read are refused as too many
not-long : (command : Command) (bytes : List ℕ) → Refuses command bytes TooLong → ⊥
not-long Play bytes refuses = refuses
not-long Trial bytes refuses = refuses
not-long (Replay workers) bytes refuses = refuses
not-long (Drill seed rows workers) bytes refuses = refuses
not-long (Relay workers capacity) bytes refuses = refuses
not-long Rounds bytes refuses = refuses
not-long (Tally workers grain) bytes refuses = refuses
not-long (Throttle workers burst rate period) bytes refuses = refuses

refused-read : (command : Command) (input : Input) (bytes : List ℕ) (why : Refusal) → Reads command input bytes → Refuses command bytes why → IsRefused command input why
refused-read command input bytes TooLong reads refuses = absurd (not-long command bytes refuses)
refused-read command input bytes (ByScript fault) reads refuses = (bytes, reads, refuses)
refused-read command input bytes (ByPlay fault) reads refuses = (bytes, reads, refuses)
refused-read command input bytes (ByTrace fault) reads refuses = (bytes, reads, refuses)
refused-read command input bytes (TooManyLines at) reads refuses = (bytes, reads, refuses)
refused-read command input bytes (ByOrder at) reads refuses = (bytes, reads, refuses)
refused-read command input bytes (ByThrottle fault) reads refuses = (bytes, reads, refuses)

refused-with : (command : Command) (asked : Option Command) (input : Input) (bytes : List ℕ) (why : Refusal) (callers : List Caller) → asked ≡ Some command → Reads command input bytes
    → RefusesWith command bytes why callers → StopsWith asked input (Refused why) callers
refused-with command asked input bytes TooLong callers is reads hands = hands
refused-with command asked input bytes (ByScript fault) callers is reads hands = hands
refused-with command asked input bytes (ByPlay fault) callers is reads hands = (command, bytes, is, reads, hands)
refused-with command asked input bytes (ByTrace fault) callers is reads hands = hands
refused-with command asked input bytes (TooManyLines at) callers is reads hands = hands
refused-with command asked input bytes (ByOrder at) callers is reads hands = hands
refused-with command asked input bytes (ByThrottle fault) callers is reads hands = hands

cant-stop : (command : Command) (asked : Option Command) (input : Input) (bytes : List ℕ) (ending : Ending) (callers : List Caller) → asked ≡ Some command → Reads command input bytes
    → CantTell command bytes ending callers → Stops asked input ending × StopsWith asked input ending callers
cant-stop command asked input bytes Done callers is reads cant = absurd cant
cant-stop command asked input bytes Words callers is reads cant = absurd cant
cant-stop command asked input bytes (Refused why) callers is reads cant =
    ((command, is, refused-read command input bytes why reads cant.0), refused-with command asked input bytes why callers is reads cant.1)
cant-stop command asked input bytes ReadFailed callers is reads cant = absurd cant
cant-stop command asked input bytes WriteFailed callers is reads cant = absurd cant
cant-stop command asked input bytes WriteStuck callers is reads cant = absurd cant
cant-stop command asked input bytes NoMemory callers is reads cant = (tt, cant)

-- a command whose input wasn't read
pub unread-prepared : (command : Command) (asked : Option Command) (input : Input) (untold : Untold) → asked ≡ Some command → HasInput command → CantRead input untold.ending → untold.halted.items ≡ []
    → IsPrepared asked input (Err untold)
unread-prepared command asked input untold is has cant none = unread untold.ending cant
  where
    unread : (ending : Ending) → CantRead input ending → Stops asked input ending × StopsWith asked input ending untold.halted.items
    unread Done cant = absurd cant
    unread Words cant = absurd cant
    unread (Refused TooLong) cant = ((command, is, (has, cant.0, cant.1, cant.2)), none)
    unread (Refused (ByScript fault)) cant = absurd cant
    unread (Refused (ByPlay fault)) cant = absurd cant
    unread (Refused (ByTrace fault)) cant = absurd cant
    unread (Refused (TooManyLines at)) cant = absurd cant
    unread (Refused (ByOrder at)) cant = absurd cant
    unread (Refused (ByThrottle fault)) cant = absurd cant
    unread ReadFailed cant = ((command, is, has, cant.0, cant.1), none)
    unread WriteFailed cant = absurd cant
    unread WriteStuck cant = absurd cant
    unread NoMemory cant = (tt, none)

-- the text of a command with the input that it read
pub telling-prepared : (command : Command) (asked : Option Command) (input : Input) (bytes : List ℕ) (result : Result Told Untold) → asked ≡ Some command → Reads command input bytes
    → IsTelling command bytes result → IsPrepared asked input result
telling-prepared command asked input bytes (Ok told) is reads telling = (command, bytes, is, reads, telling)
telling-prepared command asked input bytes (Err untold) is reads telling = cant-stop command asked input bytes untold.ending untold.halted.items is reads telling

-- a run without a text
stops-end : (asked : Option Command) (input : Input) (output : Output) (outcome : Outcome) (ending : Ending) → Stops asked input ending → WritesNothing output
    → handed_by outcome ≡ nothing → Ends asked input output outcome.answers.items ending
stops-end asked input output outcome Done stops untouched none = absurd stops
stops-end asked input output outcome Words stops untouched none = (stops, untouched, ap (λ (h : HandedBack). h.answers) none)
stops-end asked input output outcome (Refused why) stops untouched none = (stops, untouched, ap (λ (h : HandedBack). h.answers) none)
stops-end asked input output outcome ReadFailed stops untouched none = (stops, untouched, ap (λ (h : HandedBack). h.answers) none)
stops-end asked input output outcome WriteFailed stops untouched none = absurd stops
stops-end asked input output outcome WriteStuck stops untouched none = absurd stops
stops-end asked input output outcome NoMemory stops untouched none = (stops, untouched, ap (λ (h : HandedBack). h.answers) none)

stops-accounted : (asked : Option Command) (input : Input) (output : Output) (outcome : Outcome) (ending : Ending) → Stops asked input ending → StopsWith asked input ending outcome.halted.items
    → handed_by outcome ≡ nothing → IsAccounted asked input output outcome ending
stops-accounted asked input output outcome Done stops hands none = absurd stops
stops-accounted asked input output outcome Words stops hands none = (hands, none)
stops-accounted asked input output outcome (Refused why) stops hands none = (hands, none)
stops-accounted asked input output outcome ReadFailed stops hands none = (hands, none)
stops-accounted asked input output outcome WriteFailed stops hands none = absurd stops
stops-accounted asked input output outcome WriteStuck stops hands none = absurd stops
stops-accounted asked input output outcome NoMemory stops hands none = (hands, none)

-- a run that finishes what was prepared, by its account
pub prepared-accounted : (asked : Option Command) (input : Input) (output : Output) (outcome : Outcome) (ending : Ending) (told : Result Told Untold) → IsPrepared asked input told
    → Finishes told output outcome ending → IsAccounted asked input output outcome ending
prepared-accounted asked input output outcome Done (Ok told) p f = (p.0, p.1, told.text.items, p.2, p.3, rw f.1 p.4, f.2, f.0)
prepared-accounted asked input output outcome Words (Ok told) p f = absurd f.0
prepared-accounted asked input output outcome (Refused why) (Ok told) p f = absurd f.0
prepared-accounted asked input output outcome ReadFailed (Ok told) p f = absurd f.0
prepared-accounted asked input output outcome WriteFailed (Ok told) p f = (p.0, p.1, told.text.items, p.2, p.3, rw f.1 p.4, f.2, f.0)
prepared-accounted asked input output outcome WriteStuck (Ok told) p f = (p.0, p.1, told.text.items, p.2, p.3, rw f.1 p.4, f.2, f.0)
prepared-accounted asked input output outcome NoMemory (Ok told) p f = absurd f.0
prepared-accounted asked input output outcome ending (Err untold) p f =
    stops-accounted asked input output outcome ending (rw f.0 p.0) (rw (f.0, f.3) p.1) f.2

-- .. and in words of its text alone
pub prepared-ends : (asked : Option Command) (input : Input) (output : Output) (outcome : Outcome) (ending : Ending) (told : Result Told Untold) → IsPrepared asked input told
    → Finishes told output outcome ending → Ends asked input output outcome.answers.items ending
prepared-ends asked input output outcome Done (Ok told) p f = (p.0, p.1, told.text.items, p.2, p.3, tells p.0 p.1 told.text.items (handed_by outcome) (rw f.1 p.4), f.0)
prepared-ends asked input output outcome Words (Ok told) p f = absurd f.0
prepared-ends asked input output outcome (Refused why) (Ok told) p f = absurd f.0
prepared-ends asked input output outcome ReadFailed (Ok told) p f = absurd f.0
prepared-ends asked input output outcome WriteFailed (Ok told) p f = (p.0, p.1, told.text.items, p.2, p.3, tells p.0 p.1 told.text.items (handed_by outcome) (rw f.1 p.4), f.0)
prepared-ends asked input output outcome WriteStuck (Ok told) p f = (p.0, p.1, told.text.items, p.2, p.3, tells p.0 p.1 told.text.items (handed_by outcome) (rw f.1 p.4), f.0)
prepared-ends asked input output outcome NoMemory (Ok told) p f = absurd f.0
prepared-ends asked input output outcome ending (Err untold) p f = stops-end asked input output outcome ending (rw f.0 p.0) f.1 f.2

-- a script's text with its one book
pub book-telling : (bytes : List ℕ) (script : Script) (text : List ℕ) (book : CoreLog) (result : Result Told Untold) → script_of bytes ≡ Ok (content script) → TellsTrial script text book
    → HasBook text book result → IsTelling Trial bytes result
book-telling bytes script text book (Ok told) read tells has = (script, book, read, rw has.0 tells, has.1)
book-telling bytes script text book (Err untold) read tells has = rw has.0 has.1

-- .. and likewise of calls in turns
pub rounds-telling : (bytes : List ℕ) (script : Script) (text : List ℕ) (book : CoreLog) (result : Result Told Untold) → script_of bytes ≡ Ok (content script) → HasChanges script
    → TellsRounds script text (calls_in book) → IsBookOf script book → HasBook text book result → IsTelling Rounds bytes result
rounds-telling bytes script text book (Ok told) read changes tells opened has = (script, book, read, changes, rw has.0 tells, opened, has.1)
rounds-telling bytes script text book (Err untold) read changes tells opened has = rw has.0 has.1

-- .. and of a tally
pub tally-telling : (workers grain : ℕ) (bytes text : List ℕ) (book : CoreLog) (result : Result Told Untold) → HasTallied workers grain bytes text book → HasBook text book result
    → IsTelling (Tally workers grain) bytes result
tally-telling workers grain bytes text book (Ok told) tallied has = (book, rw has.0 tallied, has.1)
tally-telling workers grain bytes text book (Err untold) tallied has = rw has.0 has.1

-- a trace that is refused, and not for want of memory, is so for its first fault
pub first-fault : (workers : ℕ) (records : List (List (List ℕ))) (found : TraceFault) → (found ≡ trace.NoMemory → ⊥) → IsRefusedFor workers records found → IsFirstFault workers records found
first-fault workers records trace.NoMemory other refused = absurd (other refl)
first-fault workers records (trace.Header at) other refused = refused
first-fault workers records (trace.Fields at) other refused = refused
first-fault workers records (trace.Worker at) other refused = refused
first-fault workers records (trace.Op at) other refused = refused
first-fault workers records (trace.Tenant at) other refused = refused
first-fault workers records (trace.Amount at) other refused = refused
first-fault workers records (trace.Again at) other refused = refused
first-fault workers records (trace.Unknown at) other refused = refused
first-fault workers records (trace.TooMany at) other refused = refused
first-fault workers records (trace.Total at) other refused = refused
first-fault workers records (trace.Cap at) other refused = refused
