use Rattle.std.proofs.Common.{arith, refl}
use Rattle.fn_layout.proofs.Members.{pass_of_parts}
use Rattle.fn_layout.proofs.shape.Shape.pass_above.Goals as goal

pub overflow_mul-result : goal.overflow_mul-result
overflow_mul-result c =
    let at = pass_of_parts c.args.self c.args.level c.requires.index_in_range c.requires.number_in_range c.leaves_under-under.ensures.exact refl c.quotient.ensures refl in
    omega (arith, at.1, c.args.self.passes_in_range)

pub overflow_add-result-2 : goal.overflow_add-result-2
overflow_add-result-2 c =
    let at = pass_of_parts c.args.self c.args.level c.requires.index_in_range c.requires.number_in_range c.leaves_under-under.ensures.exact c.first_leaf.ensures.exact c.quotient.ensures c.remainder.ensures in
    omega (arith, at.1, c.args.self.passes_in_range)

pub returns-clause-exact : goal.returns-clause-exact
returns-clause-exact c = (pass_of_parts c.args.self c.args.level c.requires.index_in_range c.requires.number_in_range c.leaves_under-under.ensures.exact c.first_leaf.ensures.exact c.quotient.ensures c.remainder.ensures).0

pub returns-clause-in_range : goal.returns-clause-in_range
returns-clause-in_range c = (pass_of_parts c.args.self c.args.level c.requires.index_in_range c.requires.number_in_range c.leaves_under-under.ensures.exact c.first_leaf.ensures.exact c.quotient.ensures c.remainder.ensures).1

pub returns-clause-of_aggregator : goal.returns-clause-of_aggregator
returns-clause-of_aggregator c = (pass_of_parts c.args.self c.args.level c.requires.index_in_range c.requires.number_in_range c.leaves_under-under.ensures.exact c.first_leaf.ensures.exact c.quotient.ensures c.remainder.ensures).2
