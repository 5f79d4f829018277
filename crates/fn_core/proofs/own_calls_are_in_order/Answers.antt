use Rattle.fn_core.proofs.Laws.{last_calls_are_own}
use Rattle.fn_core.proofs.Owned.{own_calls_are_in_order}
use Rattle.fn_core.proofs.Joins.{own_calls_grow_by_one, own_calls_stay}
use Rattle.fn_core.proofs.own_calls_are_in_order.Goals as goal

pub returns-clause-last : goal.returns-clause-last
returns-clause-last c = last_calls_are_own

pub returns-clause-in_order : goal.returns-clause-in_order
returns-clause-in_order c = own_calls_are_in_order

pub returns-clause-by_one : goal.returns-clause-by_one
returns-clause-by_one c = own_calls_grow_by_one

pub returns-clause-stay : goal.returns-clause-stay
returns-clause-stay c = own_calls_stay
