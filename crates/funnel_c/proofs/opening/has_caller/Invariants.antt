use Rattle.std.proofs.Common.{take}
use Rattle.funnel_c.specs.Opening.{AreEmpty}
use Rattle.funnel_c.proofs.opening.has_caller.Given as goal

abbrev pub invariant-loop-slot : goal.invariant-loop-slot
invariant-loop-slot l = AreEmpty (take l.slot-index l.slots)
