use Rattle.std.proofs.Common.{◌≡◌, ◌≤◌, ◌+◌, length}
use Rattle.throttle_run.specs.Lines.{lines_of, throttle_of}
use Rattle.throttle_run.specs.declared.reading.TheConstants.{MOST_LINES, MOST_TOTAL}
use Rattle.throttle_run.proofs.ReadingSteps.{after}
use Rattle.throttle_run.proofs.reading.read_lines.Given as goal

abbrev pub invariant-loop-line : goal.invariant-loop-line
invariant-loop-line l = record {
  limit : l.at ≤ MOST_LINES;
  bound : l.total ≤ MOST_TOTAL;
  same : after l.items.items (lines_of l.workers l.burst (l.at + 1) l.total l.lines) ≡ throttle_of l.workers l.burst l.bytes;
}

abbrev pub decreases-loop-line : goal.decreases-loop-line
decreases-loop-line l = length l.lines
