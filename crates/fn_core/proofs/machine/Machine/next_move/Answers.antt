use Rattle.std.proofs.Common.{ap, refl, sym, ◌∙◌}
use Rattle.fn_core.specs.declared.Move.TheVariants.{Exchange}
use Rattle.fn_core.specs.State.{opened}
use Rattle.fn_core.specs.Machine.{run}
use Rattle.fn_core.specs.Order.{next_by}
use Rattle.fn_core.proofs.OnMain.{stood_at, deciding_at, standing_is}
use Rattle.fn_core.proofs.Looks.{rests_by}
use Rattle.fn_core.proofs.machine.Machine.next_move.Goals as goal

pub weight_of-requires-clause-slot : goal.weight_of-requires-clause-slot
weight_of-requires-clause-slot c =
    (deciding_at c.args.self.now c.requires.0 c.requires.1 c.args.pass c.requires.2 c.in-Deciding.kind c.in-Deciding.level c.in-Deciding.word (standing_is c.args.self.now c.requires.0 c.requires.1 c.args.pass c.requires.2 _ _ c.index.ensures c.in-Deciding.is)).0

pub returns-in-Climbing : goal.returns-in-Climbing
returns-in-Climbing c = λ log stands.
    c.next_at.ensures log stands ∙ ap (next_by c.args.self.now.start (run c.args.self.now.start log (opened c.args.self.now.start)) c.args.pass) (sym (stood_at c.args.self.now log stands c.args.pass c.requires.2 _ _ c.index.ensures c.in-Climbing.is))

pub returns-in-Deciding : goal.returns-in-Deciding
returns-in-Deciding c = λ log stands.
    ap (Exchange c.in-Deciding.kind) (c.weight_of.ensures log stands) ∙ ap (next_by c.args.self.now.start (run c.args.self.now.start log (opened c.args.self.now.start)) c.args.pass) (sym (stood_at c.args.self.now log stands c.args.pass c.requires.2 _ _ c.index.ensures c.in-Deciding.is))

pub returns-in_default : goal.returns-in_default
returns-in_default c = λ log stands.
    rests_by c.args.self.now.start (run c.args.self.now.start log (opened c.args.self.now.start)) c.args.pass c.index.result.now.position c.in_default.not-Climbing c.in_default.not-Deciding ∙ ap (next_by c.args.self.now.start (run c.args.self.now.start log (opened c.args.self.now.start)) c.args.pass) (sym (stood_at c.args.self.now log stands c.args.pass c.requires.2 _ _ c.index.ensures refl))
