use Rattle.fn_rows.proofs.Taken.{names}
use Rattle.fn_rows.proofs.state.RowState.point.Goals as goal

pub invariant_of-self : goal.invariant_of-self
invariant_of-self c = (names _ _ c.self.view_is c.self.invariant c.args.member _ _ c.stage.ensures c.args.row c.requires.row c.stage_pointed-next.ensures c.requires.may).reached

pub returns : goal.returns
returns c = (names _ _ c.self.view_is c.self.invariant c.args.member _ _ c.stage.ensures c.args.row c.requires.row c.stage_pointed-next.ensures c.requires.may).steps
