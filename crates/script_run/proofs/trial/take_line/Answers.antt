use Rattle.std.proofs.Common.{sym, subst}
use Rattle.script_run.specs.Slots.{AllStand, present}
use Rattle.script_run.proofs.Advance.{line-after}
use Rattle.script_run.proofs.Several.{took-one}
use Rattle.script_run.proofs.trial.take_line.Goals as goal

pub returns-in_err-answer-clause-stand : goal.returns-in_err-answer-clause-stand
returns-in_err-answer-clause-stand c = subst (λ x. AllStand c.args.table.now (present x)) (sym c.in_err-answer.ensures.0) c.requires.stand

pub returns-in-Ok-clause-done : goal.returns-in-Ok-clause-done
returns-in-Ok-clause-done c = took-one _ _ c.args.line c.in_ok-answer.answer _ _ c.in_ok-answer.ensures.1 c.in-Ok.ensures

pub returns-in-Ok-clause-stand : goal.returns-in-Ok-clause-stand
returns-in-Ok-clause-stand c = (line-after c.args.table.now _ _ c.args.line c.requires.left.0 c.in_ok-answer.answer (c.requires.stand, c.requires.left.1) c.in_ok-answer.ensures.1).0

pub returns-in-Err-clause-stand : goal.returns-in-Err-clause-stand
returns-in-Err-clause-stand c = (line-after c.args.table.now _ _ c.args.line c.requires.left.0 c.in_ok-answer.answer (c.requires.stand, c.requires.left.1) c.in_ok-answer.ensures.1).0
