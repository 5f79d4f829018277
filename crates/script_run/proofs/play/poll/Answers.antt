use Rattle.std.proofs.Common.{◌∙◌, ap}
use Rattle.script_run.specs.Play.{told_answer}
use Rattle.script_run.proofs.play.poll.Goals as goal

pub returns-in-Ok : goal.returns-in-Ok
returns-in-Ok c = (c.in_ok-want_call.ensures.fault, c.told_answer.ensures ∙ ap told_answer c.in-Ok.ensures.told, c.in-Ok.ensures.taken, c.in-Ok.ensures.leaves)
