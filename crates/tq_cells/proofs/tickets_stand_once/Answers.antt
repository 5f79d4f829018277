use Rattle.tq_cells.proofs.Tickets as proved
use Rattle.tq_cells.proofs.tickets_stand_once.Goals as goal

pub returns-clause-tickets : goal.returns-clause-tickets
returns-clause-tickets g c = proved.tickets_stand_once

pub returns-clause-takes : goal.returns-clause-takes
returns-clause-takes g c = proved.takes_follow_puts

pub returns-clause-stay : goal.returns-clause-stay
returns-clause-stay g c = proved.puts_and_takes_stay

pub returns-clause-alone : goal.returns-clause-alone
returns-clause-alone g c = proved.entries_stand_alone
