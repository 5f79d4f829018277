use Rattle.std.proofs.Common.{List}
use Rattle.fn_core.specs.declared.answer.Why.{Why}
use Rattle.fn_table.specs.Seen.{IsOf}
use Rattle.fn_climb.specs.Course.{Holds, pending_of}
use Rattle.fn_funnel.specs.Waiting.{PollsInVain}
use Rattle.fn_funnel.proofs.waiting.await_reply.Given as goal

abbrev pub invariant-loop : goal.invariant-loop
invariant-loop g l =
    (goal.iterator-loop g).can_next l.iterator' × (goal.iterator-loop g).is_finite l.iterator' × IsOf l.table l.pass × Holds l.pass l.course × (whys : List Why) × PollsInVain (pending_of l.fn.pass l.fn.course) whys (pending_of l.pass l.course)
