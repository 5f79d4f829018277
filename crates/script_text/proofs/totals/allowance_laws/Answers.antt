use Rattle.script_text.proofs.Allowed.{add_up, are_allowed}
use Rattle.script_text.proofs.totals.allowance_laws.Goals as goal

pub returns-clause-add_up : goal.returns-clause-add_up
returns-clause-add_up c = add_up

pub returns-clause-are_allowed : goal.returns-clause-are_allowed
returns-clause-are_allowed c = are_allowed
