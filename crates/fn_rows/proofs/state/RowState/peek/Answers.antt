use Rattle.fn_rows.proofs.Taken.{reached_value, asked_inside, peeks}
use Rattle.fn_rows.proofs.state.RowState.peek.Goals as goal

pub invariant_of-self : goal.invariant_of-self
invariant_of-self c = (peeks _ _ c.self.view_is c.self.invariant c.args.member _ _ c.stage.ensures c.args.row c.args.field c.word-word.result c.requires.word c.word-word.ensures c.stage_peeked-next.ensures.lo c.stage_peeked-next.ensures.prev c.stage_peeked-next.ensures.base c.requires.may).reached

pub returns-clause-step : goal.returns-clause-step
returns-clause-step c = (peeks _ _ c.self.view_is c.self.invariant c.args.member _ _ c.stage.ensures c.args.row c.args.field c.word-word.result c.requires.word c.word-word.ensures c.stage_peeked-next.ensures.lo c.stage_peeked-next.ensures.prev c.stage_peeked-next.ensures.base c.requires.may).steps

pub word-word-requires : goal.word-word-requires
word-word-requires c = asked_inside c.args.self.now (reached_value _ _ c.self.view_is c.self.invariant c.args.member) c.args.member c.args.row c.args.field c.requires.word c.requires.may
