use Rattle.std.proofs.Common.{refl, arith}
use Rattle.fn_model.specs.declared.Kind.TheVariants.{Read}
use Rattle.fn_core.specs.State.{opened}
use Rattle.fn_core.specs.Machine.{run}
use Rattle.fn_core.proofs.Decided.{refuted, tries_sub, tries_add, tries_none}
use Rattle.fn_core.proofs.Reached.{climbs_slot}
use Rattle.fn_core.proofs.machine.Machine.may_try.Goals as goal

pub returns-then-has_shut : goal.returns-then-has_shut
returns-then-has_shut c = λ log stands. tries_sub c.args.self.now.start (run c.args.self.now.start log (opened c.args.self.now.start)) c.args.pass c.levels-top.result c.levels-top.ensures ((c.has_shut.ensures log stands).0 c.if-has_shut.true)

pub returns-then-self-lt-NO_CAP : goal.returns-then-self-lt-NO_CAP
returns-then-self-lt-NO_CAP c = λ log stands. tries_add c.args.self.now.start (run c.args.self.now.start log (opened c.args.self.now.start)) c.args.pass c.levels-top.result _ c.levels-top.ensures (refuted _ _ c.if-rests.false (c.rests.ensures log stands)) (refuted _ _ c.if-has_shut.false (c.has_shut.ensures log stands)) (λ level at. (climbs_slot c.args.self.now log stands c.args.pass c.requires.inside Read level at).1 refl) c.if-self-lt-NO_CAP.true (c.has_shut-then-self-lt-NO_CAP.ensures log stands)

pub returns-else-self-lt-NO_CAP : goal.returns-else-self-lt-NO_CAP
returns-else-self-lt-NO_CAP c = λ log stands. tries_none c.args.self.now.start (run c.args.self.now.start log (opened c.args.self.now.start)) c.args.pass c.levels-top.result c.levels-top.ensures (refuted _ _ c.if-rests.false (c.rests.ensures log stands)) (refuted _ _ c.if-has_shut.false (c.has_shut.ensures log stands)) (λ level at. (climbs_slot c.args.self.now log stands c.args.pass c.requires.inside Read level at).1 refl) (λ capped. absurd (omega (arith, capped, c.if-self-lt-NO_CAP.false)))
