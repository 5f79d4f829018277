use Rattle.std.proofs.Common.{refl}
use Rattle.fn_core.specs.State.{Climbing, opened}
use Rattle.fn_core.specs.Machine.{run}
use Rattle.fn_core.proofs.Decided.{both_decide, first_fails}
use Rattle.fn_core.proofs.OnMain.{stood_at, standing_is}
use Rattle.fn_core.proofs.OwnRows.{decides_fill, no_fill}
use Rattle.fn_core.proofs.Reached.{climbs_slot}
use Rattle.fn_core.proofs.machine.Machine.may_fill.Goals as goal

pub owns-requires : goal.owns-requires
owns-requires c = climbs_slot c.args.self.now c.requires.taken.0 c.requires.taken.1 c.args.pass c.requires.inside c.in-Climbing.kind c.in-Climbing.level (stood_at c.args.self.now c.requires.taken.0 c.requires.taken.1 c.args.pass c.requires.inside _ _ c.index.ensures c.in-Climbing.is)

pub may_fill_own-requires : goal.may_fill_own-requires
may_fill_own-requires c = (c.requires.taken, c.requires.inside, standing_is c.args.self.now c.requires.taken.0 c.requires.taken.1 c.args.pass c.requires.inside _ _ c.index.ensures c.in-Climbing.is)

pub returns-then-owns : goal.returns-then-owns
returns-then-owns c = λ log stands.
    decides_fill c.args.self.now.start (run c.args.self.now.start log (opened c.args.self.now.start)) c.args.pass c.args.row c.args.field (Climbing c.in-Climbing.kind c.in-Climbing.level) _ (stood_at c.args.self.now log stands c.args.pass c.requires.inside _ _ c.index.ensures c.in-Climbing.is) (both_decide _ _ _ (c.owns.ensures.0 c.if-owns.true) (c.may_fill_own.ensures log stands))

pub returns-else-owns : goal.returns-else-owns
returns-else-owns c = λ log stands.
    decides_fill c.args.self.now.start (run c.args.self.now.start log (opened c.args.self.now.start)) c.args.pass c.args.row c.args.field (Climbing c.in-Climbing.kind c.in-Climbing.level) _ (stood_at c.args.self.now log stands c.args.pass c.requires.inside _ _ c.index.ensures c.in-Climbing.is) (first_fails _ _ _ c.if-owns.false c.owns.ensures)

pub returns-in_default : goal.returns-in_default
returns-in_default c = λ log stands.
    decides_fill c.args.self.now.start (run c.args.self.now.start log (opened c.args.self.now.start)) c.args.pass c.args.row c.args.field c.index.result.now.position _ (stood_at c.args.self.now log stands c.args.pass c.requires.inside _ _ c.index.ensures refl) (no_fill c.args.self.now.start (run c.args.self.now.start log (opened c.args.self.now.start)) c.args.pass c.args.row c.args.field c.index.result.now.position c.in_default.not-Climbing)
