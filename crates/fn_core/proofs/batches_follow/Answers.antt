use Rattle.fn_core.proofs.Laws.{batches_follow}
use Rattle.fn_core.proofs.Grows.{bases_are_right}
use Rattle.fn_core.proofs.HeldBases.{held_bases_are_right}
use Rattle.fn_core.proofs.GoneUp.{published_have_gone_up}
use Rattle.fn_core.proofs.batches_follow.Goals as goal

pub returns-clause-batches : goal.returns-clause-batches
returns-clause-batches c = batches_follow

pub returns-clause-bases : goal.returns-clause-bases
returns-clause-bases c = bases_are_right

pub returns-clause-held : goal.returns-clause-held
returns-clause-held c = held_bases_are_right

pub returns-clause-published : goal.returns-clause-published
returns-clause-published c = published_have_gone_up
