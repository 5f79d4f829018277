use Rattle.std.proofs.Common.{◌≡◌, ◌<◌, ◌≤◌, inl, refl, sym, ap, ◌∙◌, subst, arith}
use Rattle.fn_layout.specs.declared.shape.Shape.{Shape}
use Rattle.fn_layout.specs.Tree.{aggregator}
use Rattle.fn_core.specs.declared.Start.{Start}
use Rattle.fn_core.specs.Words.{Own}
use Rattle.fn_table.specs.Seen.{PassView}
use Rattle.table_tests.proofs.more_levels.announced.Goals as goal

pub scan-found-requires-clause-may : goal.scan-found-requires-clause-may
scan-found-requires-clause-may c =
    let p = c.args.pass.now in
    let shape : c.shape-shape.result ≡ p.seen.start.shape = c.shape-shape.ensures ∙ sym (ap (λ (b : Start). b.shape) c.requires.rests.together.1) in
    let inside : p.number < p.seen.start.shape.passes = omega (arith, c.number-own.ensures.in_range, c.number-own.ensures.number) in
    let low : 1 ≤ c.args.level = omega (arith, c.if-level-lt1.false) in
    let within : c.args.level ≤ c.shape-shape.result.levels = omega (arith, c.if-levels-level.false, c.levels-levels.ensures) in
    let below : c.args.other < c.shape-shape.result.passes = omega (arith, c.if-passes-other.false, c.passes-passes.ensures) in
    let high = subst (λ (s : Shape). c.args.level ≤ s.levels) shape within in
    let less = subst (λ (s : Shape). c.args.other < s.passes) shape below in
    let mine : c.aggregator_of-mine.result ≡ aggregator p.seen.start.shape p.number c.args.level = c.aggregator_of-mine.ensures.exact ∙ (λ i. aggregator (shape i) (c.number-own.ensures.number i) c.args.level) in
    let theirs : c.aggregator_of-theirs.result ≡ aggregator p.seen.start.shape c.args.other c.args.level = c.aggregator_of-theirs.ensures.exact ∙ ap (λ (s : Shape). aggregator s c.args.other c.args.level) shape in
    (inside, (c.requires.rests.idle, inl refl, low, high, less, (λ same. c.if-other-own.false (same ∙ sym c.number-own.ensures.number)), sym theirs ∙ c.if-theirs-mine.false ∙ mine))

pub returns : goal.returns
returns c = record {
  rests = record {
    together = (ap (λ (x : PassView). x.table) c.scan-found.ensures.now ∙ c.requires.rests.together.0, ap (λ (x : PassView). x.seen.start) c.scan-found.ensures.now ∙ c.requires.rests.together.1);
    named = ap (λ (x : PassView). x.number) c.scan-found.ensures.now ∙ c.requires.rests.named;
    idle = ap (λ (o : Own). o.caller.position) c.scan-found.ensures.own ∙ c.requires.rests.idle;
  };
}
