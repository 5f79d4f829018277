use Rattle.fn_core.proofs.Orders.{logs_are_parted_and_joined, runs_go_on, histories_go_on, calls_are_of_passes, resting_passes_have_no_call}
use Rattle.fn_core.proofs.logs_go_on.Goals as goal

pub returns-clause-parts : goal.returns-clause-parts
returns-clause-parts c = logs_are_parted_and_joined

pub returns-clause-runs : goal.returns-clause-runs
returns-clause-runs c = runs_go_on

pub returns-clause-histories : goal.returns-clause-histories
returns-clause-histories c = histories_go_on

pub returns-clause-passes : goal.returns-clause-passes
returns-clause-passes c = calls_are_of_passes

pub returns-clause-resting : goal.returns-clause-resting
returns-clause-resting c = resting_passes_have_no_call
