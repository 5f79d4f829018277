-- How a run came to its text, and what it hands back: answers, books and callers.
--     Accounts command bytes text handed      a command's text, by the books that are handed back
--     RefusesWith command bytes why callers, StopsWith asked input ending callers      the callers that are handed back where there is no text
--     IsAccounted asked input output outcome ending      the account of each ending
use Rattle.std.specs.Prelude.{◌≡◌, ℕ, ◌≤◌, List, [], length, map, Option, Some, Ok, Err}
use Rattle.fn_core.specs.Calls.{CoreLog, calls_in}
use Rattle.trace_text.specs.Drill.{drill}
use Rattle.script_text.specs.Script.{script_of, content}
use Rattle.trace_text.specs.Trace.{Content, trace_of}
use Rattle.script_text.specs.declared.scripts.Script.{Script}
use Rattle.replay_run.specs.Claim.{TellsReplay}
use Rattle.replay_run.specs.Replay.{IsReplay, value_in}
use Rattle.tq_queue.specs.Seen.{BookView}
use Rattle.tq_queue.specs.Laws.{IsSound}
use Rattle.fn_rounds.specs.Script.{IsBookOf, TellsRounds}
use Rattle.fn_spread.specs.Account.{IsBookOfDraws}
use Rattle.fn_spread.specs.Tally.{draws_in, newlines_in, pieces_in, tally_line}
use Rattle.quota_bucket.specs.Closed.{BucketLog, history}
use Rattle.throttle_run.specs.Throttled as throttled
use Rattle.relay_run.specs.Lines.{lines_of}
use Rattle.relay_run.specs.Relay.{IsRelay, order_of, text_from}
use Rattle.relay_run.specs.declared.lines.TheConstants.{MOST_LINES}
use Rattle.replay_report.specs.Report.{report_text, summary_text}
use Rattle.tool_words.specs.declared.commands.Command.{Command}
use Rattle.tool_words.specs.declared.commands.Command.TheVariants.{Play, Trial, Replay, Drill, Relay, Rounds, Tally, Throttle}
use Rattle.tool_run.specs.Handed.{HandedBack, handed_by, nothing, replayed, one_book, one_queue, one_bucket}
use Rattle.tool_run.specs.Outcome.{HasChanges, Input, Output, Reads, Writes, drill_line}
use Rattle.script_run.specs.Play.{play_text}
use Rattle.script_run.specs.Replies.{IsRunText}
use Rattle.script_run.specs.Trial.{IsHalted, TellsTrial}
use Rattle.tool_run.specs.declared.ending.Ending.{Ending}
use Rattle.tool_run.specs.declared.ending.Ending.TheVariants.{Done, Refused, WriteFailed, WriteStuck}
use Rattle.tool_run.specs.declared.ending.Refusal.{Refusal}
use Rattle.tool_run.specs.declared.ending.Refusal.TheVariants.{ByPlay}
use Rattle.script_run.specs.declared.play.PlayFault.{PlayFault}
use Rattle.tool_run.specs.declared.runs.Outcome.{Outcome}
use Rattle.script_run.specs.declared.trial.Caller.{Caller}

-- answers and books of a trace's replay, what they tell, and the report of these answers and of the books' values
abbrev pub IsReport : ℕ → Content → List ℕ → HandedBack → Type 0
IsReport workers trace text handed =
    IsReplay workers trace handed.answers handed.books × TellsReplay trace handed.answers (map value_in handed.books) × (text ≡ report_text trace handed.answers (map value_in handed.books)) × (handed ≡ replayed handed.answers handed.books)

-- .. and their summary
abbrev pub IsSummary : ℕ → Content → List ℕ → HandedBack → Type 0
IsSummary workers trace text handed =
    IsReplay workers trace handed.answers handed.books × TellsReplay trace handed.answers (map value_in handed.books) × (text ≡ summary_text trace workers handed.answers (map value_in handed.books)) × (handed ≡ replayed handed.answers handed.books)

-- The book of the queue through which lines were relayed: each worker put its own into it, in order; the text has the lines by rising ticket; and the book is sound
pub record HasRelayed (workers capacity : ℕ) (lines : List (List ℕ)) (text : List ℕ) (handed : HandedBack) : Type 0 where
  pub book : BookView ℕ
  pub relayed : IsRelay workers capacity (length lines) book
  pub sound : IsSound book
  pub tells : text ≡ text_from 0 lines (order_of (length lines) book)
  pub back : handed ≡ one_queue book

-- the line of a tally, and the book of its draws
abbrev pub HasTallied : ℕ → ℕ → List ℕ → List ℕ → CoreLog → Type 0
HasTallied workers grain bytes text book =
    (text ≡ tally_line (newlines_in bytes) (length bytes) (draws_in workers grain (length bytes))) × ((draws : List ℕ) × IsBookOfDraws workers grain (pieces_in (length bytes)) draws book)

-- the text of lines of takes that went through a bucket, and its book
abbrev pub HasThrottled : ℕ → ℕ → ℕ → ℕ → List ℕ → List ℕ → BucketLog → Type 0
HasThrottled workers burst rate period bytes text book = throttled.TellsText workers burst rate period bytes text (history book) book.ticks.log × throttled.IsBookOf workers burst book

-- the text of a command, by what it hands back
abbrev pub Accounts : Command → List ℕ → List ℕ → HandedBack → Type 0
Accounts Play bytes text handed = (s : Script) × (script_of bytes ≡ Ok (content s)) × IsRunText s text × (handed ≡ nothing)
Accounts Trial bytes text handed = (s : Script) × (book : CoreLog) × (script_of bytes ≡ Ok (content s)) × TellsTrial s text book × (handed ≡ one_book book)
Accounts (Replay workers) bytes text handed = (t : Content) × (trace_of workers bytes ≡ Ok t) × IsReport workers t text handed
Accounts (Drill seed rows workers) bytes text handed = IsSummary workers (drill seed rows workers) text handed × (text ≡ drill_line seed rows workers)
Accounts (Relay workers capacity) bytes text handed = (length (lines_of bytes) ≤ MOST_LINES) × HasRelayed workers capacity (lines_of bytes) text handed
Accounts Rounds bytes text handed =
    (s : Script) × (book : CoreLog) × (script_of bytes ≡ Ok (content s)) × HasChanges s × TellsRounds s text (calls_in book) × IsBookOf s book × (handed ≡ one_book book)
Accounts (Tally workers grain) bytes text handed = (book : CoreLog) × HasTallied workers grain bytes text book × (handed ≡ one_book book)
Accounts (Throttle workers burst rate period) bytes text handed = (book : BucketLog) × HasThrottled workers burst rate period bytes text book × (handed ≡ one_bucket book)

-- why a script can't be done, and the callers that are handed back: those of the table, as the lines before have left them
abbrev pub HandsBack : Command → List ℕ → PlayFault → List Caller → Type 0
HandsBack Play bytes fault callers = (s : Script) × (script_of bytes ≡ Ok (content s)) × (play_text s ≡ Err fault) × (callers ≡ [])
HandsBack Trial bytes fault callers = (s : Script) × (script_of bytes ≡ Ok (content s)) × IsHalted s fault callers
HandsBack _ bytes fault callers = callers ≡ []

-- .. and for each other reason there are none
abbrev pub RefusesWith : Command → List ℕ → Refusal → List Caller → Type 0
RefusesWith command bytes (ByPlay fault) callers = HandsBack command bytes fault callers
RefusesWith command bytes _ callers = callers ≡ []

-- a run that has no text hands callers back only where a script that it read can't be done
abbrev pub StopsWith : Option Command → Input → Ending → List Caller → Type 0
StopsWith asked input (Refused (ByPlay fault)) callers = (command : Command) × (bytes : List ℕ) × (asked ≡ Some command) × Reads command input bytes × HandsBack command bytes fault callers
StopsWith asked input _ callers = callers ≡ []

-- a run had its text: books and answers are those by which it is told
abbrev pub HasAccount : Option Command → Input → Output → Outcome → Ending → Type 0
HasAccount asked input output outcome ending =
    (command : Command) × (bytes text : List ℕ) × (asked ≡ Some command) × Reads command input bytes
    × Accounts command bytes text (handed_by outcome) × (outcome.halted.items ≡ []) × Writes output text ending

-- a run had no text
abbrev pub HasNoAccount : Option Command → Input → Outcome → Ending → Type 0
HasNoAccount asked input outcome ending = StopsWith asked input ending outcome.halted.items × (handed_by outcome ≡ nothing)

-- the account of each ending
abbrev pub IsAccounted : Option Command → Input → Output → Outcome → Ending → Type 0
IsAccounted asked input output outcome Done = HasAccount asked input output outcome Done
IsAccounted asked input output outcome WriteFailed = HasAccount asked input output outcome WriteFailed
IsAccounted asked input output outcome WriteStuck = HasAccount asked input output outcome WriteStuck
IsAccounted asked input output outcome ending = HasNoAccount asked input outcome ending
