use Rattle.std.proofs.Common.{refl}
use Rattle.fn_core.specs.State.{Trying, Deciding, opened}
use Rattle.fn_core.specs.Machine.{run}
use Rattle.fn_core.proofs.Decided.{decides_exchange, both_decide, first_fails, no_exchange, same_weight}
use Rattle.fn_core.proofs.OnMain.{stood_at, standing_is, deciding_at}
use Rattle.fn_core.proofs.machine.Machine.may_exchange.Goals as goal

pub weight_of-requires-clause-slot : goal.weight_of-requires-clause-slot
weight_of-requires-clause-slot c =
    (deciding_at c.args.self.now c.requires.taken.0 c.requires.taken.1 c.args.pass c.requires.inside c.in-Deciding.own c.in-Deciding.level c.in-Deciding.word (standing_is c.args.self.now c.requires.taken.0 c.requires.taken.1 c.args.pass c.requires.inside _ _ c.index.ensures c.in-Deciding.is)).0

pub returns-then-is_change : goal.returns-then-is_change
returns-then-is_change c = λ log stands.
    decides_exchange c.args.self.now.start (run c.args.self.now.start log (opened c.args.self.now.start)) c.args.pass c.args.kind c.args.amount (Trying c.in-Trying.word) _ (stood_at c.args.self.now log stands c.args.pass c.requires.inside _ _ c.index.ensures c.in-Trying.is) (both_decide _ _ _ (c.is_change.ensures.0 c.if-is_change.true) (c.may_spend.ensures log stands))

pub returns-else-is_change : goal.returns-else-is_change
returns-else-is_change c = λ log stands.
    decides_exchange c.args.self.now.start (run c.args.self.now.start log (opened c.args.self.now.start)) c.args.pass c.args.kind c.args.amount (Trying c.in-Trying.word) _ (stood_at c.args.self.now log stands c.args.pass c.requires.inside _ _ c.index.ensures c.in-Trying.is) (first_fails _ _ _ c.if-is_change.false c.is_change.ensures)

pub returns-then-is_kind : goal.returns-then-is_kind
returns-then-is_kind c = λ log stands.
    decides_exchange c.args.self.now.start (run c.args.self.now.start log (opened c.args.self.now.start)) c.args.pass c.args.kind c.args.amount (Deciding c.in-Deciding.own c.in-Deciding.level c.in-Deciding.word) _ (stood_at c.args.self.now log stands c.args.pass c.requires.inside _ _ c.index.ensures c.in-Deciding.is) (both_decide _ _ _ (c.is_kind.ensures.0 c.if-is_kind.true) (same_weight c.args.amount c.weight_of.result _ (c.weight_of.ensures log stands)))

pub returns-else-is_kind : goal.returns-else-is_kind
returns-else-is_kind c = λ log stands.
    decides_exchange c.args.self.now.start (run c.args.self.now.start log (opened c.args.self.now.start)) c.args.pass c.args.kind c.args.amount (Deciding c.in-Deciding.own c.in-Deciding.level c.in-Deciding.word) _ (stood_at c.args.self.now log stands c.args.pass c.requires.inside _ _ c.index.ensures c.in-Deciding.is) (first_fails _ _ _ c.if-is_kind.false c.is_kind.ensures)

pub returns-in_default : goal.returns-in_default
returns-in_default c = λ log stands.
    decides_exchange c.args.self.now.start (run c.args.self.now.start log (opened c.args.self.now.start)) c.args.pass c.args.kind c.args.amount c.index.result.now.position _ (stood_at c.args.self.now log stands c.args.pass c.requires.inside _ _ c.index.ensures refl) (no_exchange c.args.self.now.start (run c.args.self.now.start log (opened c.args.self.now.start)) c.args.pass c.args.kind c.args.amount c.index.result.now.position c.in_default.not-Trying c.in_default.not-Deciding)
