use Rattle.fn_table.proofs.Glances.{glances_run, glances_idle, glances_legal}
use Rattle.fn_table.proofs.glances_change_nothing.Goals as goal

pub returns-clause-states : goal.returns-clause-states
returns-clause-states c = glances_run

pub returns-clause-idle : goal.returns-clause-idle
returns-clause-idle c = glances_idle

pub returns-clause-legal : goal.returns-clause-legal
returns-clause-legal c = glances_legal
