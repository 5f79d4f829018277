use Rattle.fn_table.proofs.Later.{later_by, later_on, of_later}
use Rattle.fn_table.proofs.later_passes.Goals as goal

pub returns-clause-steps : goal.returns-clause-steps
returns-clause-steps c = later_by

pub returns-clause-go_on : goal.returns-clause-go_on
returns-clause-go_on c = later_on

pub returns-clause-table : goal.returns-clause-table
returns-clause-table c = of_later
