use Rattle.std.proofs.Common.{ap}
use Rattle.fn_core.specs.declared.answer.CoreStep.TheVariants.{Going}
use Rattle.fn_climb.specs.declared.course.Course.{Course}
use Rattle.fn_climb.proofs.Moves.{closed}
use Rattle.fn_climb.proofs.Goes.{moved}
use Rattle.fn_climb.proofs.Runs.{ran_one, ran_more}
use Rattle.fn_climb.proofs.leading.take_up.Goals as goal

pub go_up-requires-clause-holds : goal.go_up-requires-clause-holds
go_up-requires-clause-holds c = rw c.go_to.ensures (moved c.requires.holds c.requires.free (closed c.requires.holds c.requires.free c.requires.leads c.close_batch-hi.ensures)).1.0

pub go_up-requires-clause-shut : goal.go_up-requires-clause-shut
go_up-requires-clause-shut c = (c.args.at, c.close_batch-hi.result, ap (λ (x : Course). x.stage) c.go_to.ensures)

pub returns : goal.returns
returns c = ran_more (ran_one Going (moved c.requires.holds c.requires.free (closed c.requires.holds c.requires.free c.requires.leads c.close_batch-hi.ensures))) (ran_one Going (rw c.go_to.ensures at c.go_up.ensures))
