use Rattle.fn_rows.proofs.Free.{free_by}
use Rattle.fn_rows.proofs.state.RowState.is_free.Goals as goal

pub returns-else-end-eq0 : goal.returns-else-end-eq0
returns-else-end-eq0 c = let h = c.all_let in free_by c.args.self.now c.args.member c.args.row _ _ c.end-end.ensures c.if-end-eq0.false c.all_let.ensures
