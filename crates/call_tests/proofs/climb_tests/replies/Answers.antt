use Rattle.std.proofs.Common.{ℕ, sym, subst}
use Rattle.fn_core.specs.Calls.{IsIdle}
use Rattle.fn_table.proofs.Later.{of_later}
use Rattle.call_tests.proofs.climb_tests.replies.Goals as goal

pub returns-in-Ready : goal.returns-in-Ready
returns-in-Ready c = (
  of_later c.args.table.now c.args.pending.pass c.in-Ready.pass c.in-Ready.ensures.later c.requires,
  subst (λ (n : ℕ). IsIdle c.in-Ready.pass.seen n) (sym c.in-Ready.ensures.later.number) c.in-Ready.ensures.follows.0,
)
