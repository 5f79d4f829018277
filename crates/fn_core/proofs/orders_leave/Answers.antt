use Rattle.fn_core.proofs.Orders.{steps_leave, own_calls_leave, beginnings_leave, faultless_starts_are_starts}
use Rattle.fn_core.proofs.orders_leave.Goals as goal

pub returns-clause-steps : goal.returns-clause-steps
returns-clause-steps c = steps_leave

pub returns-clause-own : goal.returns-clause-own
returns-clause-own c = own_calls_leave

pub returns-clause-beginnings : goal.returns-clause-beginnings
returns-clause-beginnings c = beginnings_leave

pub returns-clause-starts : goal.returns-clause-starts
returns-clause-starts c = faultless_starts_are_starts
