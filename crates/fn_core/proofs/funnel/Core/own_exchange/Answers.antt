use Rattle.std.proofs.Common.{inl, ◌<◌, List, [], ◌∷◌, ◌++◌, sym, ◌∙◌, ap, subst}
use Rattle.fn_core.specs.declared.Event.{Event}
use Rattle.fn_core.specs.declared.Move.TheVariants.{Load, Exchange}
use Rattle.fn_core.specs.declared.Purpose.TheVariants as purpose
use Rattle.fn_core.specs.Machine.{MaySpend}
use Rattle.fn_core.specs.Fields.{Stands}
use Rattle.fn_core.specs.Calls.{CoreLog, IsIdle, state_in}
use Rattle.fn_core.proofs.Called.{load_stands, exchange_may}
use Rattle.fn_core.proofs.Pushed.{stands_next}
use Rattle.fn_core.proofs.funnel.Core.own_exchange.Goals as goal

pub take-requires : goal.take-requires
take-requires c =
    let inside : c.args.pass < c.self.inside.machine.start.shape.passes = subst (λ (v : CoreLog). c.args.pass < v.start.shape.passes) (sym c.self.view_is) c.requires.in_range in
    let idle = subst (λ (v : CoreLog). IsIdle v c.args.pass) (sym c.self.view_is) c.requires.idle in
    (c.self.inside.log, c.self.invariant, (inside, inl idle))

pub take-requires-2 : goal.take-requires-2
take-requires-2 c =
    let m = c.self.inside.machine in
    let log = c.self.inside.log in
    let pass = c.args.pass in
    let inside = subst (λ (v : CoreLog). pass < v.start.shape.passes) (sym c.self.view_is) c.requires.in_range in
    let idle = subst (λ (v : CoreLog). IsIdle v pass) (sym c.self.view_is) c.requires.idle in
    let spend = subst (λ (v : CoreLog). MaySpend (state_in v) pass c.args.amount) (sym c.self.view_is) c.requires.amount in (
      log ++ record { pass = pass; step = Load purpose.Try } ∷ [],
      load_stands m c.take.new.self log c.self.invariant pass c.take.result c.take.ensures.start c.take.ensures.takes inside idle,
      exchange_may m c.take.new.self log c.self.invariant pass c.take.result c.take.ensures.start c.take.ensures.takes inside idle c.args.kind c.args.amount c.requires.change spend,
    )

pub invariant_of-self : goal.invariant_of-self
invariant_of-self c =
    let m = c.self.inside.machine in
    let log = c.self.inside.log in
    let pass = c.args.pass in
    let inside = subst (λ (v : CoreLog). pass < v.start.shape.passes) (sym c.self.view_is) c.requires.in_range in
    let idle = subst (λ (v : CoreLog). IsIdle v pass) (sym c.self.view_is) c.requires.idle in
    let spend = subst (λ (v : CoreLog). MaySpend (state_in v) pass c.args.amount) (sym c.self.view_is) c.requires.amount in
    let load : Event = record { pass = pass; step = Load purpose.Try } in
    let exchange : Event = record { pass = pass; step = Exchange c.args.kind c.args.amount } in
    subst (Stands c.take-2.new.self)
    (sym (c.push-2.ensures ∙ ap (λ (xs : List Event). xs ++ exchange ∷ []) c.push.ensures))
    (stands_next c.take.new.self c.take-2.new.self (log ++ load ∷ []) exchange c.take-2.result
    (load_stands m c.take.new.self log c.self.invariant pass c.take.result c.take.ensures.start c.take.ensures.takes inside idle)
    (exchange_may m c.take.new.self log c.self.invariant pass c.take.result c.take.ensures.start c.take.ensures.takes inside idle c.args.kind c.args.amount c.requires.change spend)
    c.take-2.ensures.start c.take-2.ensures.takes)
