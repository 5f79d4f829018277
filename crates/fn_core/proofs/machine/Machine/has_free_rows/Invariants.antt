use Rattle.std.proofs.Common.{ℕ, suc, ◌<◌, List}
use Rattle.fn_core.specs.declared.Event.{Event}
use Rattle.fn_core.specs.Fields.{Stands}
use Rattle.fn_core.specs.State.{opened}
use Rattle.fn_core.specs.Machine.{HasFreeRow, run}
use Rattle.fn_core.proofs.machine.Machine.has_free_rows.Given as goal

abbrev pub invariant-loop-above : goal.invariant-loop-above
invariant-loop-above l = (log : List Event) → Stands l.self log → (k : ℕ) → k < l.above → HasFreeRow l.self.start (run l.self.start log (opened l.self.start)) l.kind (suc k) l.pass
