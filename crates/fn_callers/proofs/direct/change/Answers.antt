use Rattle.fn_callers.proofs.Once.{made_if, none_if}
use Rattle.fn_callers.proofs.direct.change.Goals as goal

pub returns-clause-made : goal.returns-clause-made
returns-clause-made c = made_if c.args.pass.now c.args.kind c.args.amount c.try_once.new.pass c.try_once.result c.number-legal.ensures.legal c.requires.rests c.try_once.ensures.later c.try_once.ensures.called

pub returns-clause-none : goal.returns-clause-none
returns-clause-none c = none_if c.args.pass.now c.args.kind c.args.amount c.try_once.new.pass c.try_once.result c.try_once.ensures.later c.try_once.ensures.lost
