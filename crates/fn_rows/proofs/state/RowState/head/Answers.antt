use Rattle.fn_rows.proofs.Taken.{heads}
use Rattle.fn_rows.proofs.state.RowState.head.Goals as goal

pub invariant_of-self : goal.invariant_of-self
invariant_of-self c = (heads _ _ c.self.view_is c.self.invariant c.args.member _ _ c.stage.ensures c.stage_headed-next.ensures.leads c.stage_headed-next.ensures.late c.requires).reached

pub returns-clause-step : goal.returns-clause-step
returns-clause-step c = (heads _ _ c.self.view_is c.self.invariant c.args.member _ _ c.stage.ensures c.stage_headed-next.ensures.leads c.stage_headed-next.ensures.late c.requires).steps
