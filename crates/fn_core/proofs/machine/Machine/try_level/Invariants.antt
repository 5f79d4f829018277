use Rattle.std.proofs.Common.{◌≡◌, ℕ, suc, ◌-◌, option_map}
use Rattle.std.specs.List.{range_with_len}
use Rattle.fn_core.specs.State.{State}
use Rattle.fn_core.specs.Begin.{is_open, row_scans, blocked_by, blocker, row_end}
use Rattle.fn_core.specs.Fields.{Mirrors}
use Rattle.fn_core.proofs.Tries.{Goes, all_events}
use Rattle.fn_core.proofs.machine.Machine.try_level.Given as goal

abbrev pub invariant-loop-row : goal.invariant-loop-row
invariant-loop-row l =
    (s : State) → Mirrors l.self s
    → Goes (all_events l.pass (row_scans l.self.start s l.kind l.level l.pass)) (is_open l.self.start s l.kind l.level l.pass) l.fn.events.items l.events.items (range_with_len l.row (l.row-end - l.row)) (range_with_len 0 l.self.start.shape.rows)
    × ((k : ℕ) → suc k ≡ l.row → l.last ≡ option_map (blocked_by l.self.start s l.kind l.level k) (blocker l.self.start s l.kind l.level l.pass (row_end l.self.start s l.kind l.level l.pass k)))
