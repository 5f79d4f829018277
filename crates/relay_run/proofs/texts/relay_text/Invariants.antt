use Rattle.std.proofs.Common.{◌≡◌, ◌++◌, drop}
use Rattle.relay_run.specs.Relay.{text_from}
use Rattle.relay_run.proofs.texts.relay_text.Given as goal

abbrev pub invariant-loop-ticket : goal.invariant-loop-ticket
invariant-loop-ticket l =
    l.text.items ++ text_from l.ticket l.lines (drop l.ticket l.order) ≡ text_from 0 l.lines l.order
