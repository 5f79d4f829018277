use Rattle.std.proofs.Common.{refl}
use Rattle.fn_core.specs.State.{Climbing, opened}
use Rattle.fn_core.specs.Machine.{run}
use Rattle.fn_core.proofs.HandRows.{decides_peek, no_peek}
use Rattle.fn_core.proofs.OnMain.{stood_at, standing_is}
use Rattle.fn_core.proofs.machine.Machine.may_peek.Goals as goal

pub may_peek_at-requires : goal.may_peek_at-requires
may_peek_at-requires c = (c.requires.taken, c.requires.inside, standing_is c.args.self.now c.requires.taken.0 c.requires.taken.1 c.args.pass c.requires.inside _ _ c.index.ensures c.in-Climbing.is)

pub returns-in-Climbing : goal.returns-in-Climbing
returns-in-Climbing c = λ log stands.
    decides_peek c.args.self.now.start (run c.args.self.now.start log (opened c.args.self.now.start)) c.args.pass c.args.row c.args.field (Climbing c.in-Climbing.kind c.in-Climbing.level) _ (stood_at c.args.self.now log stands c.args.pass c.requires.inside _ _ c.index.ensures c.in-Climbing.is) (c.may_peek_at.ensures log stands)

pub returns-in_default : goal.returns-in_default
returns-in_default c = λ log stands.
    decides_peek c.args.self.now.start (run c.args.self.now.start log (opened c.args.self.now.start)) c.args.pass c.args.row c.args.field c.index.result.now.position _ (stood_at c.args.self.now log stands c.args.pass c.requires.inside _ _ c.index.ensures refl) (no_peek c.args.self.now.start (run c.args.self.now.start log (opened c.args.self.now.start)) c.args.pass c.args.row c.args.field c.index.result.now.position c.in_default.not-Climbing)
