use Rattle.std.proofs.Common.{◌≡◌, ◌++◌, drop}
use Rattle.throttle_run.specs.Throttled.{lines_text}
use Rattle.throttle_run.proofs.telling.push_lines.Given as goal

abbrev pub invariant-loop-i : goal.invariant-loop-i
invariant-loop-i l = l.text.items ++ lines_text (drop l.i l.lines) (drop l.i l.answers) ≡ l.initial.text.items ++ lines_text l.lines l.answers
