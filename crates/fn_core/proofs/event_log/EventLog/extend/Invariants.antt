use Rattle.std.proofs.Common.{◌≡◌, ◌++◌, take}
use Rattle.fn_core.proofs.event_log.EventLog.extend.Given as goal

abbrev pub invariant-loop-event : goal.invariant-loop-event
invariant-loop-event l = l.self ≡ l.fn.self ++ take l.event-index l.events
