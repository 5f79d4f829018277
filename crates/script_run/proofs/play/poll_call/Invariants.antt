use Rattle.script_run.proofs.Polling.{Polls, left_steps}
use Rattle.script_run.proofs.play.poll_call.Given as goal

abbrev pub invariant-loop-told : goal.invariant-loop-told
invariant-loop-told l = Polls l.fn.core l.core l.pass

abbrev pub decreases-loop-told : goal.decreases-loop-told
decreases-loop-told l = left_steps l.core l.pass
