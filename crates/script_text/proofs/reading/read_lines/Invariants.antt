use Rattle.std.proofs.Common.{◌≡◌, ◌≤◌, ◌+◌, length}
use Rattle.script_text.specs.Script.{lines_of}
use Rattle.text_lines.specs.declared.pieces.TheConstants.{MOST_NUMBER}
use Rattle.script_text.specs.declared.reading.TheConstants.{MOST_LINES}
use Rattle.script_text.proofs.OneByOne.{after}
use Rattle.script_text.proofs.reading.read_lines.Given as goal

abbrev pub invariant-loop-line : goal.invariant-loop-line
invariant-loop-line l = record {
  limit : l.at ≤ MOST_LINES;
  bound : l.total ≤ MOST_NUMBER;
  same : after l.items.items (lines_of l.passes (l.at + 1) l.total l.lines) ≡ lines_of l.fn.passes (l.fn.first + 1) l.fn.opening l.fn.lines;
}

abbrev pub decreases-loop-line : goal.decreases-loop-line
decreases-loop-line l = length l.lines
