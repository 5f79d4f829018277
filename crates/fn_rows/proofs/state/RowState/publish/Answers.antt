use Rattle.std.proofs.Common.{sym, ◌∙◌, ap, arith}
use Rattle.fn_rows.specs.Law.{row_named}
use Rattle.fn_rows.proofs.Fields.{row_inside, row_below}
use Rattle.fn_rows.proofs.Taken.{reached_value, publishes_end}
use Rattle.fn_rows.proofs.state.RowState.publish.Goals as goal

pub index_mut-requires : goal.index_mut-requires
index_mut-requires c =
    let row = row_below _ _ c.self.view_is c.in-Pointed.row (row_inside c.args.self.now (reached_value _ _ c.self.view_is c.self.invariant c.args.member) c.args.member c.in-Pointed.row (ap row_named (sym c.stage.ensures ∙ c.in-Pointed.is))) in
    omega (arith, row, c.self.invariant.sized.end)

pub invariant_of-self : goal.invariant_of-self
invariant_of-self c = (publishes_end _ _ c.self.view_is c.self.invariant c.args.member c.args.end _ _ c.in-Pointed.base c.in-Pointed.row _ c.stage.ensures c.in-Pointed.is c.requires.end c.requires.may).reached

pub returns-in-Pointed : goal.returns-in-Pointed
returns-in-Pointed c = (publishes_end _ _ c.self.view_is c.self.invariant c.args.member c.args.end _ _ c.in-Pointed.base c.in-Pointed.row _ c.stage.ensures c.in-Pointed.is c.requires.end c.requires.may).steps
