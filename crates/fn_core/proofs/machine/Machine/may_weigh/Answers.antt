use Rattle.std.proofs.Common.{arith}
use Rattle.fn_core.proofs.Looks.{climbs_in, arrives_above}
use Rattle.fn_core.proofs.machine.Machine.may_weigh.Goals as goal

pub overflow_sub-level : goal.overflow_sub-level
overflow_sub-level c = (climbs_in c.args.self.now c.requires.climbs.0.0 c.requires.climbs.0.1 c.args.pass c.args.kind c.args.level c.requires.climbs).2.0

pub weight_of-requires-clause-slot : goal.weight_of-requires-clause-slot
weight_of-requires-clause-slot c =
    let slot = climbs_in c.args.self.now c.requires.climbs.0.0 c.requires.climbs.0.1 c.args.pass c.args.kind c.args.level c.requires.climbs in
    (slot.0, slot.1, (omega (arith, slot.2.0, c.if-level-eq1.false), omega (arith, slot.2.1)))

pub returns-else-level-eq1 : goal.returns-else-level-eq1
returns-else-level-eq1 c = λ log stands. arrives_above c.args.self.now log stands c.args.pass c.args.kind c.args.level c.requires.climbs c.if-level-eq1.false c.args.weight c.weight_of.result (c.weight_of.ensures log stands)
