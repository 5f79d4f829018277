use Rattle.std.proofs.Common.{◌∙◌}
use Rattle.fn_climb.proofs.Moves.{level_low, level_high, arrived, may_arrive, headed_late, head_link}
use Rattle.fn_climb.proofs.at_level.go_on.Goals as goal

pub weight_below-weight-requires-clause-low : goal.weight_below-weight-requires-clause-low
weight_below-weight-requires-clause-low c = level_low c.requires.holds

pub weight_below-weight-requires-clause-high : goal.weight_below-weight-requires-clause-high
weight_below-weight-requires-clause-high c = level_high c.requires.holds

pub arrive-requires-clause-may : goal.arrive-requires-clause-may
arrive-requires-clause-may c = rw c.weight_below-weight.ensures (may_arrive c.requires.holds c.requires.free (c.requires.there ∙ c.in-Told.is))

pub row_read-requires : goal.row_read-requires
row_read-requires c = rw c.shape_of-shape.ensures (head_link c.requires.holds c.requires.free c.head-word.ensures)

pub row_read-requires-in-Based : goal.row_read-requires-in-Based
row_read-requires-in-Based c = rw c.shape_of-shape-in-Based.ensures (head_link c.requires.holds c.requires.free c.head-word-in-Based.ensures)

pub returns-in-Told : goal.returns-in-Told
returns-in-Told c = arrived c.requires.holds c.requires.free (c.requires.there ∙ c.in-Told.is) (rw c.weight_below-weight.ensures at c.arrive.ensures)

pub returns-in-Late : goal.returns-in-Late
returns-in-Late c = rw (c.saturating_sub.ensures, c.row_read.ensures, c.shape_of-shape.ensures) (headed_late c.requires.holds c.requires.free (c.requires.there ∙ c.in-Late.is) c.head-word.ensures)
