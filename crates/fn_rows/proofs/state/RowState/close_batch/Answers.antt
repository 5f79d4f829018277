use Rattle.fn_rows.proofs.Taken.{closes}
use Rattle.fn_rows.proofs.state.RowState.close_batch.Goals as goal

pub invariant_of-self : goal.invariant_of-self
invariant_of-self c = (closes _ _ c.self.view_is c.self.invariant c.args.member _ _ c.stage.ensures c.stage_closed-next.ensures c.requires).reached

pub returns-clause-step : goal.returns-clause-step
returns-clause-step c = (closes _ _ c.self.view_is c.self.invariant c.args.member _ _ c.stage.ensures c.stage_closed-next.ensures c.requires).steps
