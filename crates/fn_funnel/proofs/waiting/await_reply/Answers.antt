use Rattle.std.proofs.Common.{◌++◌, ◌∷◌, []}
use Rattle.fn_table.proofs.Later.{of_later}
use Rattle.fn_climb.specs.Course.{pending_of}
use Rattle.fn_funnel.proofs.Polls.{polls_more}
use Rattle.fn_funnel.proofs.waiting.await_reply.Goals as goal

pub returns-in-Ready : goal.returns-in-Ready
returns-in-Ready g c = record { whys = c.loop.invariant.4; until = pending_of c.loop.pass c.loop.course; in_vain = c.loop.invariant.5; polled = c.in-Ready.ensures.polled }

pub loop-preserved : goal.loop-preserved
loop-preserved g c = (
  tt,
  tt,
  of_later c.args.table.now c.loop.pass c.poll_on.new.pass c.in-NotYet.ensures.polled.later c.loop.invariant.2,
  c.in-NotYet.ensures.holds.0,
  c.loop.invariant.4 ++ c.in-NotYet.field-0 ∷ [],
  polls_more (pending_of c.args.pass.now c.args.course) c.loop.invariant.4 (pending_of c.loop.pass c.loop.course) c.in-NotYet.field-0 (pending_of c.poll_on.new.pass c.poll_on.new.course) c.loop.invariant.5
      (c.in-NotYet.ensures.polled, c.in-NotYet.ensures.holds.1),
)
