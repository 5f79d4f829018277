use Rattle.std.proofs.Common.{◌∙◌}
use Rattle.fn_climb.proofs.Underway.{may_at_stage}
use Rattle.fn_climb.proofs.Moves.{peeked_prev, prev_link}
use Rattle.fn_climb.proofs.at_level.walk.Goals as goal

pub peek_at-lo-requires-clause-may : goal.peek_at-lo-requires-clause-may
peek_at-lo-requires-clause-may c = may_at_stage c.requires.holds c.requires.free (c.requires.there ∙ c.in-At.is)

pub peek_at-word-requires-clause-may : goal.peek_at-word-requires-clause-may
peek_at-word-requires-clause-may c = may_at_stage c.requires.holds c.requires.free (c.requires.there ∙ c.in-Over.is)

pub peek_at-base-requires-clause-may : goal.peek_at-base-requires-clause-may
peek_at-base-requires-clause-may c = may_at_stage c.requires.holds c.requires.free (c.requires.there ∙ c.in-Hit.is)

pub row_read-requires : goal.row_read-requires
row_read-requires c = rw c.shape_of-shape.ensures (prev_link c.requires.holds c.requires.free (c.requires.there ∙ c.in-Over.is) c.peek_at-word.ensures)

pub returns-in-Over : goal.returns-in-Over
returns-in-Over c = rw (c.saturating_sub.ensures, c.row_read.ensures, c.shape_of-shape.ensures) (peeked_prev c.requires.holds c.requires.free (c.requires.there ∙ c.in-Over.is) c.peek_at-word.ensures)
