use Rattle.fn_core.specs.State.{opened}
use Rattle.fn_core.specs.Machine.{run}
use Rattle.fn_core.proofs.Decided.{decides_apply, no_apply, same_weight}
use Rattle.fn_core.proofs.machine.Machine.may_apply.Goals as goal

pub returns-then-has_shut : goal.returns-then-has_shut
returns-then-has_shut c = λ log stands.
    decides_apply c.args.self.now.start (run c.args.self.now.start log (opened c.args.self.now.start)) c.args.pass c.args.weight c.levels-top.result _ c.levels-top.ensures ((c.has_shut.ensures log stands).0 c.if-has_shut.true) c.if-self-eq-NO_CAP.true (same_weight c.args.weight c.weight_of.result _ (c.weight_of.ensures log stands))

pub returns-else-has_shut : goal.returns-else-has_shut
returns-else-has_shut c = λ log stands. no_apply c.args.self.now.start (run c.args.self.now.start log (opened c.args.self.now.start)) c.args.pass c.args.weight c.levels-top.result _ c.levels-top.ensures c.if-has_shut.false (c.has_shut.ensures log stands)
