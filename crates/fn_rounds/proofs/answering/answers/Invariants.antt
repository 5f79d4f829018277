use Rattle.std.proofs.Common.{take}
use Rattle.fn_rounds.proofs.Gathered.{HaveCome}
use Rattle.fn_rounds.proofs.answering.answers.Given as goal

abbrev pub invariant-loop-line : goal.invariant-loop-line
invariant-loop-line l = HaveCome (take l.line-index l.lines) l.replies l.next.items l.answers.items
