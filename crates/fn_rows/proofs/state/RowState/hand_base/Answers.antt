use Rattle.fn_rows.proofs.Taken.{hands}
use Rattle.fn_rows.proofs.state.RowState.hand_base.Goals as goal

pub invariant_of-self : goal.invariant_of-self
invariant_of-self c = (hands _ _ c.self.view_is c.self.invariant c.args.member _ _ c.stage.ensures c.args.base c.stage_handed-next.ensures c.requires).reached

pub returns : goal.returns
returns c = (hands _ _ c.self.view_is c.self.invariant c.args.member _ _ c.stage.ensures c.args.base c.stage_handed-next.ensures c.requires).steps
