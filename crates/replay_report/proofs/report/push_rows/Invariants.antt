use Rattle.std.proofs.Common.{◌≡◌, ◌++◌, drop}
use Rattle.std.specs.List.{flat_map, zip}
use Rattle.replay_report.specs.Report.{row_line}
use Rattle.replay_report.proofs.report.push_rows.Given as goal

abbrev pub invariant-loop-i : goal.invariant-loop-i
invariant-loop-i l = l.text.items ++ flat_map row_line (drop l.i (zip l.rows l.answers)) ≡ l.initial.text.items ++ flat_map row_line (zip l.rows l.answers)
