use Rattle.tq_cells.proofs.Holders as proved
use Rattle.tq_cells.proofs.one_seat_holds.Goals as goal

pub returns : goal.returns
returns g c = proved.one_seat_holds
