-- From the account of a command's text to what the text tells.
use Rattle.std.proofs.Common.{ℕ, List, length, map, ap}
use Rattle.fn_core.specs.Calls.{calls_in}
use Rattle.replay_run.specs.Replay.{value_in}
use Rattle.quota_bucket.specs.Closed.{history}
use Rattle.trace_text.specs.Records.{records_of}
use Rattle.trace_text.proofs.Said.{traces-in_grammar}
use Rattle.relay_run.specs.Lines.{lines_of}
use Rattle.relay_run.specs.Relay.{order_of}
use Rattle.relay_run.proofs.Ordered.{relays_are_ordered}
use Rattle.tool_words.specs.declared.commands.Command.{Command}
use Rattle.tool_words.specs.declared.commands.Command.TheVariants.{Play, Trial, Replay, Drill, Relay, Rounds, Tally, Throttle}
use Rattle.tool_run.specs.Accounts.{Accounts}
use Rattle.tool_run.specs.Handed.{HandedBack}
use Rattle.tool_run.specs.Outcome.{Tells}
use Rattle.script_run.specs.Replies.{history_of}
use Rattle.fn_model.specs.Integer.{value}
use Rattle.fn_core.specs.Machine.{no_cap}

pub tells : (command : Command) (bytes text : List ℕ) (handed : HandedBack) → Accounts command bytes text handed → Tells command bytes text handed.answers
tells Play bytes text handed a =
    let run = a.2.2 in
    (a.0, a.1, (a.2.0, a.2.1, history_of a.0, run.told, run.in_turn, a.2.3), ap (λ (h : HandedBack). h.answers) a.3)
tells Trial bytes text handed a =
    let ran = a.3.1 in
    (a.0, a.2, (a.3.0, value no_cap a.0.opening (calls_in a.1), calls_in a.1, ran.told, a.3.2), ap (λ (h : HandedBack). h.answers) a.4)
tells (Replay workers) bytes text handed a =
    (a.0, map value_in handed.books, traces-in_grammar workers (records_of bytes) a.0 a.1, a.2.1, a.2.2)
tells (Drill seed rows workers) bytes text handed a =
    (map value_in handed.books, a.0.1, a.1)
tells (Relay workers capacity) bytes text handed a =
    let relayed = a.1 in
    (a.0, (order_of (length (lines_of bytes)) relayed.book, relays_are_ordered workers capacity (length (lines_of bytes)) relayed.book relayed.relayed, relayed.tells), ap (λ (h : HandedBack). h.answers) relayed.back)
tells Rounds bytes text handed a =
    (a.0, calls_in a.1, a.2, a.3, a.4, ap (λ (h : HandedBack). h.answers) a.6)
tells (Tally workers grain) bytes text handed a =
    (a.1.0, ap (λ (h : HandedBack). h.answers) a.2)
tells (Throttle workers burst rate period) bytes text handed a =
    (history a.0, a.0.ticks.log, a.1.0, ap (λ (h : HandedBack). h.answers) a.2)
