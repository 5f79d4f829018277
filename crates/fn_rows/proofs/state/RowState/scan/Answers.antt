use Rattle.fn_rows.proofs.Fields.{announced_read, scans}
use Rattle.fn_rows.proofs.state.RowState.scan.Goals as goal

pub invariant_of-self : goal.invariant_of-self
invariant_of-self c = (scans _ _ c.self.view_is c.self.invariant c.args.member c.args.other c.requires _ (announced_read _ _ c.self.view_is c.self.invariant c.args.other c.requires.1.0 _ c.index-word.ensures)).reached

pub returns-clause-step : goal.returns-clause-step
returns-clause-step c = (scans _ _ c.self.view_is c.self.invariant c.args.member c.args.other c.requires _ (announced_read _ _ c.self.view_is c.self.invariant c.args.other c.requires.1.0 _ c.index-word.ensures)).steps
