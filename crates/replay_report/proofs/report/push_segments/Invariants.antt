use Rattle.std.proofs.Common.{◌≡◌, ◌++◌, ◌≤◌, drop, length}
use Rattle.std.specs.List.{zip}
use Rattle.trace_text.specs.SoundTrace.{CutsRise}
use Rattle.replay_report.specs.Report.{segments_text}
use Rattle.replay_report.proofs.report.push_segments.Given as goal

abbrev pub invariant-loop-segment : goal.invariant-loop-segment
invariant-loop-segment l = record {
  within : l.before ≤ length l.rows;
  rise : CutsRise l.before (length l.rows) (drop l.segment l.cuts);
  text : l.text.items ++ segments_text l.tenants l.finals l.segment l.before (drop l.before (zip l.rows l.answers)) (drop l.segment l.cuts)
      ≡ l.initial.text.items ++ segments_text l.tenants l.finals 0 0 (zip l.rows l.answers) l.cuts;
}
