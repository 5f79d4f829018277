use Rattle.fn_core.proofs.Entered.{entries_stay, no_call_enters_twice, direct_calls_are_alone, funnelled_calls_are_batched}
use Rattle.fn_core.proofs.entries_stay.Goals as goal

pub returns-clause-stay : goal.returns-clause-stay
returns-clause-stay c = entries_stay

pub returns-clause-once : goal.returns-clause-once
returns-clause-once c = no_call_enters_twice

pub returns-clause-alone : goal.returns-clause-alone
returns-clause-alone c = direct_calls_are_alone

pub returns-clause-batched : goal.returns-clause-batched
returns-clause-batched c = funnelled_calls_are_batched
