use Rattle.fn_climb.proofs.Underway.{placed}
use Rattle.fn_climb.proofs.row_words.spot_of.Goals as goal

pub spot-requires-clause-funnelled : goal.spot-requires-clause-funnelled
spot-requires-clause-funnelled c = (placed c.requires.holds).0

pub spot-requires-clause-level : goal.spot-requires-clause-level
spot-requires-clause-level c = (placed c.requires.holds).1
