use Rattle.std.proofs.Common.{◌-◌}
use Rattle.std.specs.List.{range_with_len}
use Rattle.fn_core.specs.State.{State}
use Rattle.fn_core.specs.Begin.{is_full, level_scans}
use Rattle.fn_core.specs.Fields.{Mirrors}
use Rattle.fn_core.proofs.Tries.{Goes, all_events}
use Rattle.fn_core.proofs.machine.Machine.try_levels.Given as goal

abbrev pub invariant-loop-level : goal.invariant-loop-level
invariant-loop-level l =
    (s : State) → Mirrors l.self s → Goes (all_events l.pass (level_scans l.self.start s l.kind l.pass)) (is_full l.self.start s l.kind l.pass) l.fn.events.items l.events.items (range_with_len l.level (l.level-end - l.level)) (range_with_len 1 l.self.start.shape.levels)
