use Rattle.std.proofs.Common.{◌≡◌, ◌++◌, drop}
use Rattle.fn_rounds.specs.Script.{reply_lines}
use Rattle.fn_rounds.proofs.telling.push_replies.Given as goal

abbrev pub invariant-loop-i : goal.invariant-loop-i
invariant-loop-i l = l.text.items ++ reply_lines (drop l.i l.lines) (drop l.i l.replies) ≡ l.initial.text.items ++ reply_lines l.lines l.replies
