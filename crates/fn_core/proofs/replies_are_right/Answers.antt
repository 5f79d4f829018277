use Rattle.fn_core.proofs.Laws.{replies_are_right, direct_replies_are_right}
use Rattle.fn_core.proofs.Grows.{replies_are_bounded}
use Rattle.fn_core.proofs.replies_are_right.Goals as goal

pub returns-clause-climbing : goal.returns-clause-climbing
returns-clause-climbing c = replies_are_right

pub returns-clause-direct : goal.returns-clause-direct
returns-clause-direct c = direct_replies_are_right

pub returns-clause-bounded : goal.returns-clause-bounded
returns-clause-bounded c = replies_are_bounded
