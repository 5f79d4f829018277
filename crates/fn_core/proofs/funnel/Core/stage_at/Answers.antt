use Rattle.std.proofs.Common.{subst}
use Rattle.fn_core.specs.declared.Move.{Move}
use Rattle.fn_core.specs.Machine.{May}
use Rattle.fn_core.specs.Calls.{state_in}
use Rattle.fn_core.proofs.Called.{climbs_slot}
use Rattle.fn_core.proofs.funnel.Core.stage_at.Goals as goal

pub stage-requires : goal.stage-requires
stage-requires c =
    let core = c.args.self.now in
    let may = subst (λ (step : Move). May core.start (state_in core) c.args.pass step) c.in-Look.is c.requires.allowed.1 in
    climbs_slot core c.requires.legal c.args.pass c.requires.allowed.0 c.in-Look.kind c.in-Look.level may.0

pub stage-requires-in-Leave : goal.stage-requires-in-Leave
stage-requires-in-Leave c =
    let core = c.args.self.now in
    let may = subst (λ (step : Move). May core.start (state_in core) c.args.pass step) c.in-Leave.is c.requires.allowed.1 in
    climbs_slot core c.requires.legal c.args.pass c.requires.allowed.0 c.in-Leave.kind c.in-Leave.level may.0
