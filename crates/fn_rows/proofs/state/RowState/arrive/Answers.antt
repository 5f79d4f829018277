use Rattle.fn_rows.proofs.Taken.{comes}
use Rattle.fn_rows.proofs.state.RowState.arrive.Goals as goal

pub invariant_of-self : goal.invariant_of-self
invariant_of-self c = (comes _ _ c.self.view_is c.self.invariant c.args.member c.args.weight c.requires.room c.requires.may).reached

pub returns-clause-step : goal.returns-clause-step
returns-clause-step c = (comes _ _ c.self.view_is c.self.invariant c.args.member c.args.weight c.requires.room c.requires.may).steps
