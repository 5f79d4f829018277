use Rattle.std.proofs.Common.{◌≤◌, ◌*◌, arith}
use Rattle.fn_layout.specs.Words.{aggregators}
use Rattle.fn_layout.proofs.Numbers.{aggregator_number_below}
use Rattle.fn_layout.proofs.shape.Shape.aggregator_number.Goals as goal

pub returns-clause-in_range : goal.returns-clause-in_range
returns-clause-in_range c =
    simp (c.kind_number.ensures, c.aggregators.ensures.exact, c.first_widths.ensures.exact) (aggregator_number_below c.args.self c.args.kind c.args.level c.args.index c.requires)

pub returns-clause-bounded : goal.returns-clause-bounded
returns-clause-bounded c =
    let few : 2 * aggregators c.args.self ≤ 192 = omega (arith, c.aggregators.ensures.exact) in
    simp (c.kind_number.ensures, c.aggregators.ensures.exact, c.first_widths.ensures.exact) (omega (arith, few, aggregator_number_below c.args.self c.args.kind c.args.level c.args.index c.requires))
