use Rattle.std.proofs.Common.{arith}
use Rattle.fn_climb.proofs.Underway.{placed}
use Rattle.fn_climb.proofs.Moves.{level_low, level_high}
use Rattle.fn_climb.proofs.at_level.chosen.Goals as goal

pub member-requires-clause-level_in_range : goal.member-requires-clause-level_in_range
member-requires-clause-level_in_range c = rw c.shape_of-shape.ensures (placed c.requires.holds).1

pub overflow_sub-row : goal.overflow_sub-row
overflow_sub-row c = level_low c.requires.holds

pub bounds-course-level : goal.bounds-course-level
bounds-course-level c = let high = level_high c.requires.holds in omega (arith, high)
