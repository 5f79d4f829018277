use Rattle.fn_rows.proofs.Taken.{looks}
use Rattle.fn_rows.proofs.state.RowState.look.Goals as goal

pub invariant_of-self : goal.invariant_of-self
invariant_of-self c = (looks _ _ c.self.view_is c.self.invariant c.args.member _ _ c.stage.ensures c.stage_looked-next.ensures c.requires).reached

pub returns-clause-step : goal.returns-clause-step
returns-clause-step c = (looks _ _ c.self.view_is c.self.invariant c.args.member _ _ c.stage.ensures c.stage_looked-next.ensures c.requires).steps
