use Rattle.std.proofs.Common.{◌≡◌, ◌++◌, drop}
use Rattle.std.specs.List.{flat_map, zip}
use Rattle.replay_report.specs.Report.{settled_line}
use Rattle.replay_report.proofs.report.push_settled.Given as goal

abbrev pub invariant-loop-i : goal.invariant-loop-i
invariant-loop-i l = l.text.items ++ flat_map (settled_line l.at) (drop l.i (zip l.tenants l.values)) ≡ l.initial.text.items ++ flat_map (settled_line l.at) (zip l.tenants l.values)
