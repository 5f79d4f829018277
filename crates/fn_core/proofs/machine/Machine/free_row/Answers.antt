use Rattle.fn_core.proofs.Looks.{climbs_in}
use Rattle.fn_core.proofs.machine.Machine.free_row.Goals as goal

pub first_free-row-requires-clause-slot : goal.first_free-row-requires-clause-slot
first_free-row-requires-clause-slot c = climbs_in c.args.self.now c.requires.climbs.0.0 c.requires.climbs.0.1 c.args.pass c.args.kind c.args.level c.requires.climbs

pub row_of-requires-clause-slot_in_range : goal.row_of-requires-clause-slot_in_range
row_of-requires-clause-slot_in_range c = climbs_in c.args.self.now c.requires.climbs.0.0 c.requires.climbs.0.1 c.args.pass c.args.kind c.args.level c.requires.climbs
