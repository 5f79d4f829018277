use Rattle.std.proofs.Common.{ap, ◌∙◌}
use Rattle.running.proofs.Keeps.{notes}
use Rattle.fn_table.specs.Funnel.{funnel}
use Rattle.fn_table.proofs.meeting.copy.Goals as goal

pub split_seat-requires : goal.split_seat-requires
split_seat-requires c = (ap (λ p. p.table) c.pass.view_is ∙ c.requires.together, c.requires.words, notes funnel _ _ _)
