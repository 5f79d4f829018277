use Rattle.fn_core.specs.declared.answer.CoreStep.TheVariants.{Going}
use Rattle.fn_climb.specs.Course.{pending_of}
use Rattle.fn_climb.specs.Turns.{Ran}
use Rattle.fn_climb.proofs.Runs.{left_in}
use Rattle.fn_climb.proofs.polling.poll_on.Given as goal

abbrev pub invariant-loop-pass : goal.invariant-loop-pass
invariant-loop-pass l = Ran (pending_of l.fn.pass l.fn.course) Going l.pass l.course

abbrev pub decreases-loop-pass : goal.decreases-loop-pass
decreases-loop-pass l = left_in l.pass
