use Rattle.std.proofs.Common.{◌-◌}
use Rattle.std.specs.List.{range_with_len, filter}
use Rattle.fn_core.specs.State.{State}
use Rattle.fn_core.specs.Begin.{is_other, others, blocks}
use Rattle.fn_core.specs.Fields.{Mirrors}
use Rattle.fn_core.proofs.Tries.{Goes, scan_events}
use Rattle.fn_core.proofs.machine.Machine.try_row.Given as goal

abbrev pub invariant-loop-other : goal.invariant-loop-other
invariant-loop-other l =
    (s : State) → Mirrors l.self s → Goes (scan_events l.pass l.kind l.level) (blocks l.self.start s l.kind l.level l.end) l.fn.events.items l.events.items (filter (is_other l.self.start.shape l.level l.pass) (range_with_len l.other (l.other-end - l.other))) (others l.self.start.shape l.level l.pass)
