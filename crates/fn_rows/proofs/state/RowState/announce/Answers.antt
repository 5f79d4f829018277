use Rattle.std.proofs.Common.{sym, ◌∙◌, arith}
use Rattle.fn_rows.proofs.Fields.{seen_small}
use Rattle.fn_rows.proofs.Taken.{reached_value, tells}
use Rattle.fn_rows.proofs.state.RowState.announce.Goals as goal

pub overflow_add-seen : goal.overflow_add-seen
overflow_add-seen c = let small = seen_small c.args.self.now (reached_value _ _ c.self.view_is c.self.invariant c.args.member) c.args.member c.in-Saw.seen (sym c.stage.ensures ∙ c.in-Saw.is) in omega (arith, small)

pub invariant_of-self : goal.invariant_of-self
invariant_of-self c = (tells _ _ c.self.view_is c.self.invariant c.args.member c.in-Saw.seen _ c.stage.ensures c.in-Saw.is c.requires).reached

pub returns-in-Saw : goal.returns-in-Saw
returns-in-Saw c = (tells _ _ c.self.view_is c.self.invariant c.args.member c.in-Saw.seen _ c.stage.ensures c.in-Saw.is c.requires).steps
