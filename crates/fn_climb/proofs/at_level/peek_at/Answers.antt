use Rattle.fn_climb.proofs.Underway.{its_aggregator}
use Rattle.fn_climb.proofs.Moves.{in_hand}
use Rattle.fn_climb.proofs.at_level.peek_at.Goals as goal

pub row_there-row-requires-clause-aggregator : goal.row_there-row-requires-clause-aggregator
row_there-row-requires-clause-aggregator c = rw (c.shape_of.ensures, c.spot_of-index.ensures) (its_aggregator c.requires.holds)

pub row_there-row-requires-clause-owned : goal.row_there-row-requires-clause-owned
row_there-row-requires-clause-owned c = rw (c.shape_of.ensures, c.spot_of-index.ensures) (in_hand c.requires.holds c.requires.free c.requires.in_hand)
