use Rattle.std.proofs.Common.{◌≡◌, ℕ, ◌<◌, ◌≤◌, inl, refl, sym, ap, ◌∙◌, subst, arith}
use Rattle.fn_layout.specs.declared.shape.Shape.{Shape}
use Rattle.fn_layout.specs.Tree.{aggregator}
use Rattle.fn_model.specs.declared.Kind.TheVariants.{Add}
use Rattle.fn_core.specs.declared.Start.{Start}
use Rattle.fn_core.specs.declared.Move.TheVariants.{Scan}
use Rattle.fn_core.specs.Words.{Own}
use Rattle.fn_table.proofs.Later.{later_by, of_later}
use Rattle.call_tests.proofs.level_tests.announced.Goals as goal

pub scan-requires-clause-may : goal.scan-requires-clause-may
scan-requires-clause-may c =
    let p = c.args.pass.now in
    let shape : c.shape-shape.result ≡ p.seen.start.shape = c.shape-shape.ensures ∙ sym (ap (λ (b : Start). b.shape) c.requires.together.1) in
    let inside : p.number < p.seen.start.shape.passes = omega (arith, c.number-number.ensures.in_range, c.number-number.ensures.number) in
    let low : 1 ≤ c.args.level = omega (arith, c.if-level-lt1.false) in
    let within : c.args.level ≤ c.shape-shape.result.levels = omega (arith, c.if-levels-level.false, c.levels-levels.ensures) in
    let below : c.args.other < c.shape-shape.result.passes = omega (arith, c.if-passes-other.false, c.passes-passes.ensures) in
    let high = subst (λ (s : Shape). c.args.level ≤ s.levels) shape within in
    let less = subst (λ (s : Shape). c.args.other < s.passes) shape below in
    let mine : c.aggregator_of-mine.result ≡ aggregator p.seen.start.shape p.number c.args.level = c.aggregator_of-mine.ensures.exact ∙ (λ i. aggregator (shape i) (c.number-number.ensures.number i) c.args.level) in
    let theirs : c.aggregator_of-theirs.result ≡ aggregator p.seen.start.shape c.args.other c.args.level = c.aggregator_of-theirs.ensures.exact ∙ ap (λ (s : Shape). aggregator s c.args.other c.args.level) shape in
    (inside, (c.requires.idle, inl refl, low, high, less, (λ same. c.if-other-number.false (same ∙ sym c.number-number.ensures.number)), sym theirs ∙ c.if-theirs-mine.false ∙ mine))

pub returns-clause-together : goal.returns-clause-together
returns-clause-together c = of_later c.args.table.now c.args.pass.now c.scan.new.pass (later_by c.args.pass.now (Scan Add c.args.level c.args.other) c.scan.result c.scan.new.pass c.scan.ensures) c.requires.together

pub returns-clause-idle : goal.returns-clause-idle
returns-clause-idle c = ap (λ (o : Own). o.caller.position) c.scan.ensures.own ∙ c.requires.idle
