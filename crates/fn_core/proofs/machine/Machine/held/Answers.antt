use Rattle.fn_core.proofs.Reached.{climbs_slot}
use Rattle.fn_core.proofs.machine.Machine.held.Goals as goal

pub stage_of-requires-clause-slot : goal.stage_of-requires-clause-slot
stage_of-requires-clause-slot c = climbs_slot c.args.self.now c.requires.taken.0 c.requires.taken.1 c.args.pass c.requires.inside c.args.kind c.args.level ((c.climbs.ensures c.requires.taken.0 c.requires.taken.1).0 c.if-climbs.true)
