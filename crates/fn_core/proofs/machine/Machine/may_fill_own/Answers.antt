use Rattle.std.proofs.Common.{sym, ◌∙◌}
use Rattle.fn_core.specs.State.{opened}
use Rattle.fn_core.specs.Machine.{run}
use Rattle.fn_core.proofs.Looks.{climbs_in, climbs_at}
use Rattle.fn_core.proofs.OwnRows.{fills_first}
use Rattle.fn_core.proofs.machine.Machine.may_fill_own.Goals as goal

pub stage_of-requires-clause-slot : goal.stage_of-requires-clause-slot
stage_of-requires-clause-slot c = climbs_in c.args.self.now c.requires.0.0 c.requires.0.1 c.args.pass c.args.kind c.args.level c.requires

pub is_free-requires-clause-slot : goal.is_free-requires-clause-slot
is_free-requires-clause-slot c = climbs_in c.args.self.now c.requires.0.0 c.requires.0.1 c.args.pass c.args.kind c.args.level c.requires

pub stage_of-requires-in-Base-clause-slot : goal.stage_of-requires-in-Base-clause-slot
stage_of-requires-in-Base-clause-slot c = climbs_in c.args.self.now c.requires.0.0 c.requires.0.1 c.args.pass c.args.kind c.args.level c.requires

pub stage_of-requires-in-Prev-clause-slot : goal.stage_of-requires-in-Prev-clause-slot
stage_of-requires-in-Prev-clause-slot c = climbs_in c.args.self.now c.requires.0.0 c.requires.0.1 c.args.pass c.args.kind c.args.level c.requires

pub local_row-requires : goal.local_row-requires
local_row-requires c = let slot = climbs_in c.args.self.now c.requires.0.0 c.requires.0.1 c.args.pass c.args.kind c.args.level c.requires in record { slot = (slot.0, slot.2) }

pub local_row-requires-in-FilledBase : goal.local_row-requires-in-FilledBase
local_row-requires-in-FilledBase c = let slot = climbs_in c.args.self.now c.requires.0.0 c.requires.0.1 c.args.pass c.args.kind c.args.level c.requires in record { slot = (slot.0, slot.2) }

pub returns-in-Headed : goal.returns-in-Headed
returns-in-Headed c = λ log stands.
    fills_first c.args.self.now.start (run c.args.self.now.start log (opened c.args.self.now.start)) c.args.pass c.args.kind c.args.level c.args.row c.args.field _ _ _ _ _ c.in-Lo.is (climbs_at c.args.self.now log stands c.args.pass c.args.kind c.args.level c.requires) (sym (c.stage_of.ensures log stands) ∙ c.in-Headed.is) (c.is_free.ensures log stands)
