use Rattle.fn_core.proofs.Reached.{climbs_slot}
use Rattle.fn_core.proofs.machine.Machine.may_point.Goals as goal

pub owns-requires : goal.owns-requires
owns-requires c = climbs_slot c.args.self.now c.requires.taken.0 c.requires.taken.1 c.args.pass c.requires.inside c.args.kind c.args.level (c.in-Some-Filled.ensures c.requires.taken.0 c.requires.taken.1).0

pub local_row-requires : goal.local_row-requires
local_row-requires c =
    let slot = climbs_slot c.args.self.now c.requires.taken.0 c.requires.taken.1 c.args.pass c.requires.inside c.args.kind c.args.level (c.in-Some-Filled.ensures c.requires.taken.0 c.requires.taken.1).0 in
    record { slot = (slot.0, slot.2) }
