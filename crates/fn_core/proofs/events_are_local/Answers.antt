use Rattle.fn_core.proofs.Locality.{events_are_local}
use Rattle.fn_core.proofs.Stays.{guards_stay}
use Rattle.fn_core.proofs.Next.{next_is_own}
use Rattle.fn_core.proofs.events_are_local.Goals as goal

pub returns-clause-local : goal.returns-clause-local
returns-clause-local c = events_are_local

pub returns-clause-guards : goal.returns-clause-guards
returns-clause-guards c = guards_stay

pub returns-clause-next : goal.returns-clause-next
returns-clause-next c = next_is_own
