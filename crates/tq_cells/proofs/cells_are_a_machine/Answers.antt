use Rattle.tq_cells.proofs.CellLaws as proved
use Rattle.tq_cells.proofs.cells_are_a_machine.Goals as goal

pub returns-clause-laws : goal.returns-clause-laws
returns-clause-laws g c = proved.laws

pub returns-clause-legal : goal.returns-clause-legal
returns-clause-legal g c = proved.exact_logs_are_legal
