use Rattle.std.proofs.Common.{arith}
use Rattle.fn_rows.proofs.Fields.{row_below}
use Rattle.fn_rows.proofs.Taken.{reached_value, filled_inside, fills_lo, fills_base, fills_prev}
use Rattle.fn_rows.proofs.state.RowState.fill.Goals as goal

pub index_mut-requires-in-Lo : goal.index_mut-requires-in-Lo
index_mut-requires-in-Lo c =
    let row = row_below _ _ c.self.view_is c.args.row (filled_inside c.args.self.now (reached_value _ _ c.self.view_is c.self.invariant c.args.member) c.args.member c.args.row c.args.word c.args.field c.requires) in
    omega (arith, row, c.self.invariant.sized.lo)

pub invariant_of-self : goal.invariant_of-self
invariant_of-self c = (fills_lo _ _ c.self.view_is c.self.invariant c.args.member _ _ c.stage.ensures c.args.row c.args.word c.args.field c.in-Lo.is c.stage_filled-next.ensures c.requires).reached

pub returns-in-Lo : goal.returns-in-Lo
returns-in-Lo c = (fills_lo _ _ c.self.view_is c.self.invariant c.args.member _ _ c.stage.ensures c.args.row c.args.word c.args.field c.in-Lo.is c.stage_filled-next.ensures c.requires).steps

pub index_mut-requires-in-Base : goal.index_mut-requires-in-Base
index_mut-requires-in-Base c =
    let row = row_below _ _ c.self.view_is c.args.row (filled_inside c.args.self.now (reached_value _ _ c.self.view_is c.self.invariant c.args.member) c.args.member c.args.row c.args.word c.args.field c.requires) in
    omega (arith, row, c.self.invariant.sized.base)

pub invariant_of-self-in-Base : goal.invariant_of-self-in-Base
invariant_of-self-in-Base c = (fills_base _ _ c.self.view_is c.self.invariant c.args.member _ _ c.stage.ensures c.args.row c.args.word c.args.field c.in-Base.is c.stage_filled-next.ensures c.requires).reached

pub returns-in-Base : goal.returns-in-Base
returns-in-Base c = (fills_base _ _ c.self.view_is c.self.invariant c.args.member _ _ c.stage.ensures c.args.row c.args.word c.args.field c.in-Base.is c.stage_filled-next.ensures c.requires).steps

pub index_mut-requires-in-Prev : goal.index_mut-requires-in-Prev
index_mut-requires-in-Prev c =
    let row = row_below _ _ c.self.view_is c.args.row (filled_inside c.args.self.now (reached_value _ _ c.self.view_is c.self.invariant c.args.member) c.args.member c.args.row c.args.word c.args.field c.requires) in
    omega (arith, row, c.self.invariant.sized.prev)

pub invariant_of-self-in-Prev : goal.invariant_of-self-in-Prev
invariant_of-self-in-Prev c = (fills_prev _ _ c.self.view_is c.self.invariant c.args.member _ _ c.stage.ensures c.args.row c.args.word c.args.field c.in-Prev.is c.stage_filled-next.ensures c.requires).reached

pub returns-in-Prev : goal.returns-in-Prev
returns-in-Prev c = (fills_prev _ _ c.self.view_is c.self.invariant c.args.member _ _ c.stage.ensures c.args.row c.args.word c.args.field c.in-Prev.is c.stage_filled-next.ensures c.requires).steps
