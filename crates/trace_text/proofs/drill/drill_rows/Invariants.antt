use Rattle.std.proofs.Common.{◌≡◌, ◌≤◌, ◌*◌}
use Rattle.trace_text.specs.Drill.{drill_rows, total_taken}
use Rattle.trace_text.proofs.drill.drill_rows.Given as goal

abbrev pub invariant-loop-i : goal.invariant-loop-i
invariant-loop-i l = record {
  rows : l.rows.items ≡ drill_rows l.seed l.i l.workers;
  total : l.total ≡ total_taken l.rows.items;
  small : l.total ≤ l.i * 97;
}
