use Rattle.fn_rows.proofs.Taken.{sees}
use Rattle.fn_rows.proofs.state.RowState.see.Goals as goal

pub invariant_of-self : goal.invariant_of-self
invariant_of-self c = (sees _ _ c.self.view_is c.self.invariant c.args.member c.requires).reached

pub returns-clause-step : goal.returns-clause-step
returns-clause-step c = (sees _ _ c.self.view_is c.self.invariant c.args.member c.requires).steps
