use Rattle.std.proofs.Common.{rules}
use Rattle.fn_rows.proofs.Free.{let_more}
use Rattle.fn_rows.proofs.state.RowState.all_let.Goals.{else-other-member-via-then-other-member+else-not-has_let, else-other-member-via-else-other-member}
use Rattle.fn_rows.proofs.state.RowState.all_let.Goals as goal

pub loop-other-preserved : goal.loop-other-preserved
loop-other-preserved c = let_more c.args.self.now c.args.member c.args.end c.loop-other.other c.loop-other.invariant (elim c.else-other-member.branch [
  | else-other-member-via-then-other-member+else-not-has_let w ↦ λ apart. w.has_let.ensures.0 (search (rules, w.if-not-has_let.false))
  | else-other-member-via-else-other-member w ↦ λ apart. absurd (apart (search (rules, w.if-other-member.false)))
])
