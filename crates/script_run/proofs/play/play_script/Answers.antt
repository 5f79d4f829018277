use Rattle.std.proofs.Common.{rules}
use Rattle.script_run.proofs.WholeRun.{tells_in_turn}
use Rattle.script_run.proofs.play.play_script.Goals as goal

pub returns-in-Ok-clause-told : goal.returns-in-Ok-clause-told
returns-in-Ok-clause-told c = tells_in_turn _ _ c.requires (search rules)
