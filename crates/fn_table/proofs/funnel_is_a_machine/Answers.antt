use Rattle.fn_table.proofs.Fit as fit
use Rattle.fn_table.proofs.FunnelLaws as rule
use Rattle.fn_table.proofs.funnel_is_a_machine.Goals as goal

pub returns-clause-laws : goal.returns-clause-laws
returns-clause-laws c = rule.laws

pub returns-clause-logs_are_legal : goal.returns-clause-logs_are_legal
returns-clause-logs_are_legal c = rule.logs_are_legal

pub returns-clause-guards_are_own : goal.returns-clause-guards_are_own
returns-clause-guards_are_own c = rule.guards_are_own

pub returns-clause-additions_fit : goal.returns-clause-additions_fit
returns-clause-additions_fit c = fit.additions_fit

pub returns-clause-steps_are_told : goal.returns-clause-steps_are_told
returns-clause-steps_are_told c = rule.steps_are_told
