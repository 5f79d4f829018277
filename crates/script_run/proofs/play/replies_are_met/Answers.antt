use Rattle.script_run.proofs.WholeRun.{replies_are_met}
use Rattle.script_run.proofs.play.replies_are_met.Goals as goal

pub returns : goal.returns
returns c = replies_are_met
