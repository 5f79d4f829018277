use Rattle.std.proofs.Common.{◌≡◌, ◌≤◌, ◌+◌, length}
use Rattle.script_text.specs.Script.{first_with_words}
use Rattle.script_text.proofs.reading.first_line.Given as goal

abbrev pub invariant-loop-line : goal.invariant-loop-line
invariant-loop-line l = record {
  count : l.at + length l.lines ≤ length l.fn.lines;
  same : first_with_words (l.at + 1) l.lines ≡ first_with_words 1 l.fn.lines;
}

abbrev pub decreases-loop-line : goal.decreases-loop-line
decreases-loop-line l = length l.lines
