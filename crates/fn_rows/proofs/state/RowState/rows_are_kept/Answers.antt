use Rattle.fn_rows.proofs.Fields.{lawful}
use Rattle.fn_rows.proofs.Taken.{reached_value}
use Rattle.fn_rows.proofs.state.RowState.rows_are_kept.Goals as goal

pub returns-clause-lawful : goal.returns-clause-lawful
returns-clause-lawful c = lawful c.args.self.now (reached_value _ _ c.self.view_is c.self.invariant 0)
