use Rattle.std.proofs.Common.{arith}
use Rattle.tick_table.proofs.Claims.{each_once}
use Rattle.tick_table.proofs.Seats.{last_look, closed_has}
use Rattle.tick_table.proofs.table.TickTable.close.Goals as goal

pub load-tick-requires : goal.load-tick-requires
load-tick-requires c = (c.gather-place.ensures.table, omega (arith, c.self.invariant), last_look _ _ _ _ c.gather-place.ensures _ _ _ _)

pub returns-clause-seats : goal.returns-clause-seats
returns-clause-seats c = closed_has _ _ _ _ _ _ c.gather-place.ensures c.load-tick.ensures.2.0

pub returns-clause-once : goal.returns-clause-once
returns-clause-once c = each_once _ _
