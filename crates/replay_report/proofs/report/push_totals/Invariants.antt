use Rattle.std.proofs.Common.{◌≡◌, ◌++◌, drop}
use Rattle.std.specs.List.{enumerate_from, flat_map, zip}
use Rattle.trace_text.specs.Trace.{content}
use Rattle.replay_report.specs.Report.{answered, total_line}
use Rattle.replay_report.proofs.report.push_totals.Given as goal

abbrev pub invariant-loop-i : goal.invariant-loop-i
invariant-loop-i l =
    l.text.items ++ flat_map (total_line (answered (content l.fn.trace) l.fn.answers)) (drop l.i (zip (enumerate_from 0 l.tenants) l.values))
    ≡ l.initial.text.items ++ flat_map (total_line (answered (content l.fn.trace) l.fn.answers)) (zip (enumerate_from 0 l.tenants) l.values)
