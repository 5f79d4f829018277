use Rattle.std.proofs.Common.{◌≡◌, List, ◌++◌, take}
use Rattle.fn_core.specs.declared.Event.{Event}
use Rattle.fn_core.specs.State.{opened}
use Rattle.fn_core.specs.Machine.{Legal, run}
use Rattle.fn_core.specs.Fields.{Stands}
use Rattle.fn_core.proofs.machine.Machine.take_all.Given as goal

abbrev pub invariant-loop-event : goal.invariant-loop-event
invariant-loop-event l =
    (l.self.start ≡ l.fn.self.start)
    × ((log : List Event) → Stands l.fn.self log → Legal l.fn.self.start l.events (run l.fn.self.start log (opened l.fn.self.start)) → Stands l.self (log ++ take l.event-index l.events))
