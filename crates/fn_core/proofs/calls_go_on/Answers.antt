use Rattle.fn_core.proofs.Grows.{positions_fit}
use Rattle.fn_core.proofs.Filling.{calls_always_go_on}
use Rattle.fn_core.proofs.Measure.{steps_run_out, calls_are_short, others_cost_nothing}
use Rattle.fn_core.proofs.Polls.{steps_follow, polls_are_short}
use Rattle.fn_core.proofs.calls_go_on.Goals as goal

pub returns-clause-fits : goal.returns-clause-fits
returns-clause-fits c = positions_fit

pub returns-clause-next : goal.returns-clause-next
returns-clause-next c = calls_always_go_on

pub returns-clause-run_out : goal.returns-clause-run_out
returns-clause-run_out c = steps_run_out

pub returns-clause-short : goal.returns-clause-short
returns-clause-short c = calls_are_short

pub returns-clause-others : goal.returns-clause-others
returns-clause-others c = others_cost_nothing

pub returns-clause-follow : goal.returns-clause-follow
returns-clause-follow c = steps_follow

pub returns-clause-polls : goal.returns-clause-polls
returns-clause-polls c = polls_are_short
