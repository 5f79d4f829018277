use Rattle.std.proofs.Common.{◌∙◌}
use Rattle.fn_climb.proofs.Underway.{its_aggregator, may_at_stage}
use Rattle.fn_climb.proofs.Moves.{may_fill_first, filled_first, last_named}
use Rattle.fn_climb.proofs.at_level.fill_row.Goals as goal

pub fill-requires-clause-may : goal.fill-requires-clause-may
fill-requires-clause-may c = may_fill_first c.requires.holds c.requires.free (c.requires.there ∙ c.in-Headed.is) (rw c.chosen-local.ensures at c.own_row-row.ensures)

pub fill-requires-in-FilledLo-clause-may : goal.fill-requires-in-FilledLo-clause-may
fill-requires-in-FilledLo-clause-may c = rw c.own_row-row-in-FilledLo.ensures (may_at_stage c.requires.holds c.requires.free (c.requires.there ∙ c.in-FilledLo.is))

pub link-word-requires-clause-aggregator : goal.link-word-requires-clause-aggregator
link-word-requires-clause-aggregator c = rw (c.shape_of.ensures, c.spot_of-index.ensures) (its_aggregator c.requires.holds)

pub link-word-requires-clause-mine : goal.link-word-requires-clause-mine
link-word-requires-clause-mine c = rw (c.shape_of.ensures, c.spot_of-index.ensures) (last_named c.requires.holds c.requires.free (c.requires.there ∙ c.in-FilledBase.is))

pub fill-requires-in-FilledBase-clause-may : goal.fill-requires-in-FilledBase-clause-may
fill-requires-in-FilledBase-clause-may c = rw c.own_row-row-in-FilledBase.ensures (may_at_stage c.requires.holds c.requires.free (c.requires.there ∙ c.in-FilledBase.is))

pub point-requires-clause-may : goal.point-requires-clause-may
point-requires-clause-may c = rw c.own_row-row-in-Filled.ensures (may_at_stage c.requires.holds c.requires.free (c.requires.there ∙ c.in-Filled.is))

pub returns-in-Headed : goal.returns-in-Headed
returns-in-Headed c = rw c.chosen-local.ensures (filled_first c.requires.holds c.requires.free (c.requires.there ∙ c.in-Headed.is) (rw c.chosen-local.ensures at c.own_row-row.ensures) c.fill.ensures.1)
