use Rattle.fn_core.proofs.Tells as tells
use Rattle.fn_core.proofs.Steps.{events_are_steps}
use Rattle.fn_core.proofs.steps_tell.Goals as goal

pub returns-clause-steps : goal.returns-clause-steps
returns-clause-steps c = tells.steps_tell

pub returns-clause-words : goal.returns-clause-words
returns-clause-words c = tells.words_are_found

pub returns-clause-aggregators : goal.returns-clause-aggregators
returns-clause-aggregators c = events_are_steps
