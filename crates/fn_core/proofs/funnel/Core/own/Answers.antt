use Rattle.std.proofs.Common.{◌≡◌, sym, subst}
use Rattle.std.specs.Prelude.{IfOk}
use Rattle.fn_model.specs.declared.Kind.{Kind}
use Rattle.fn_core.specs.Calls.{with_moves, own_moves}
use Rattle.fn_core.proofs.Called.{joins_so, idle_so}
use Rattle.fn_core.proofs.Left.{spends_so, others_so}
use Rattle.fn_core.proofs.funnel.Core.own.Goals as goal

pub returns-in-Read-clause-joins : goal.returns-in-Read-clause-joins
returns-in-Read-clause-joins c =
    let core = c.args.self.now in
    joins_so core c.log_is_legal.ensures c.args.pass c.requires.in_range c.requires.idle c.own_step.new.self c.args.kind c.args.amount c.requires.amount c.own_step.result
    (subst (λ (k : Kind). IfOk c.own_step.result (λ _. c.own_step.new.self ≡ with_moves core c.args.pass (own_moves core.start.cap k c.args.amount))) (sym c.in-Read.is) c.own_step.ensures.taken) c.own_step.ensures.met

pub returns-in-Read-clause-idle : goal.returns-in-Read-clause-idle
returns-in-Read-clause-idle c =
    let core = c.args.self.now in
    idle_so core c.log_is_legal.ensures c.args.pass c.requires.in_range c.requires.idle c.own_step.new.self c.args.kind c.args.amount c.requires.amount c.own_step.result
    (subst (λ (k : Kind). IfOk c.own_step.result (λ _. c.own_step.new.self ≡ with_moves core c.args.pass (own_moves core.start.cap k c.args.amount))) (sym c.in-Read.is) c.own_step.ensures.taken)

pub returns-in-Add-clause-joins : goal.returns-in-Add-clause-joins
returns-in-Add-clause-joins c =
    let core = c.args.self.now in
    joins_so core c.log_is_legal.ensures c.args.pass c.requires.in_range c.requires.idle c.own_addition.new.self c.args.kind c.args.amount c.requires.amount c.own_addition.result
    (subst (λ (k : Kind). IfOk c.own_addition.result (λ _. c.own_addition.new.self ≡ with_moves core c.args.pass (own_moves core.start.cap k c.args.amount))) (sym c.in-Add.is) c.own_addition.ensures.taken) c.own_addition.ensures.met

pub returns-in-Add-clause-idle : goal.returns-in-Add-clause-idle
returns-in-Add-clause-idle c =
    let core = c.args.self.now in
    idle_so core c.log_is_legal.ensures c.args.pass c.requires.in_range c.requires.idle c.own_addition.new.self c.args.kind c.args.amount c.requires.amount c.own_addition.result
    (subst (λ (k : Kind). IfOk c.own_addition.result (λ _. c.own_addition.new.self ≡ with_moves core c.args.pass (own_moves core.start.cap k c.args.amount))) (sym c.in-Add.is) c.own_addition.ensures.taken)

pub returns-in-Sub-clause-joins : goal.returns-in-Sub-clause-joins
returns-in-Sub-clause-joins c =
    let core = c.args.self.now in
    joins_so core c.log_is_legal.ensures c.args.pass c.requires.in_range c.requires.idle c.own_exchange.new.self c.args.kind c.args.amount c.requires.amount c.own_exchange.result
    (subst (λ (k : Kind). IfOk c.own_exchange.result (λ _. c.own_exchange.new.self ≡ with_moves core c.args.pass (own_moves core.start.cap k c.args.amount))) (sym c.in-Sub.is) c.own_exchange.ensures.taken) c.own_exchange.ensures.met

pub returns-in-Sub-clause-idle : goal.returns-in-Sub-clause-idle
returns-in-Sub-clause-idle c =
    let core = c.args.self.now in
    idle_so core c.log_is_legal.ensures c.args.pass c.requires.in_range c.requires.idle c.own_exchange.new.self c.args.kind c.args.amount c.requires.amount c.own_exchange.result
    (subst (λ (k : Kind). IfOk c.own_exchange.result (λ _. c.own_exchange.new.self ≡ with_moves core c.args.pass (own_moves core.start.cap k c.args.amount))) (sym c.in-Sub.is) c.own_exchange.ensures.taken)

pub returns-in-Read-clause-spends : goal.returns-in-Read-clause-spends
returns-in-Read-clause-spends c =
    let core = c.args.self.now in
    spends_so core c.log_is_legal.ensures c.args.pass c.requires.in_range c.requires.idle c.own_step.new.self c.args.kind c.args.amount c.requires.amount c.own_step.result
    (subst (λ (k : Kind). IfOk c.own_step.result (λ _. c.own_step.new.self ≡ with_moves core c.args.pass (own_moves core.start.cap k c.args.amount))) (sym c.in-Read.is) c.own_step.ensures.taken)

pub returns-in-Read-clause-others : goal.returns-in-Read-clause-others
returns-in-Read-clause-others c =
    let core = c.args.self.now in
    others_so core c.log_is_legal.ensures c.args.pass c.requires.in_range c.requires.idle c.own_step.new.self c.args.kind c.args.amount c.requires.amount c.own_step.result
    (subst (λ (k : Kind). IfOk c.own_step.result (λ _. c.own_step.new.self ≡ with_moves core c.args.pass (own_moves core.start.cap k c.args.amount))) (sym c.in-Read.is) c.own_step.ensures.taken)

pub returns-in-Add-clause-spends : goal.returns-in-Add-clause-spends
returns-in-Add-clause-spends c =
    let core = c.args.self.now in
    spends_so core c.log_is_legal.ensures c.args.pass c.requires.in_range c.requires.idle c.own_addition.new.self c.args.kind c.args.amount c.requires.amount c.own_addition.result
    (subst (λ (k : Kind). IfOk c.own_addition.result (λ _. c.own_addition.new.self ≡ with_moves core c.args.pass (own_moves core.start.cap k c.args.amount))) (sym c.in-Add.is) c.own_addition.ensures.taken)

pub returns-in-Add-clause-others : goal.returns-in-Add-clause-others
returns-in-Add-clause-others c =
    let core = c.args.self.now in
    others_so core c.log_is_legal.ensures c.args.pass c.requires.in_range c.requires.idle c.own_addition.new.self c.args.kind c.args.amount c.requires.amount c.own_addition.result
    (subst (λ (k : Kind). IfOk c.own_addition.result (λ _. c.own_addition.new.self ≡ with_moves core c.args.pass (own_moves core.start.cap k c.args.amount))) (sym c.in-Add.is) c.own_addition.ensures.taken)

pub returns-in-Sub-clause-spends : goal.returns-in-Sub-clause-spends
returns-in-Sub-clause-spends c =
    let core = c.args.self.now in
    spends_so core c.log_is_legal.ensures c.args.pass c.requires.in_range c.requires.idle c.own_exchange.new.self c.args.kind c.args.amount c.requires.amount c.own_exchange.result
    (subst (λ (k : Kind). IfOk c.own_exchange.result (λ _. c.own_exchange.new.self ≡ with_moves core c.args.pass (own_moves core.start.cap k c.args.amount))) (sym c.in-Sub.is) c.own_exchange.ensures.taken)

pub returns-in-Sub-clause-others : goal.returns-in-Sub-clause-others
returns-in-Sub-clause-others c =
    let core = c.args.self.now in
    others_so core c.log_is_legal.ensures c.args.pass c.requires.in_range c.requires.idle c.own_exchange.new.self c.args.kind c.args.amount c.requires.amount c.own_exchange.result
    (subst (λ (k : Kind). IfOk c.own_exchange.result (λ _. c.own_exchange.new.self ≡ with_moves core c.args.pass (own_moves core.start.cap k c.args.amount))) (sym c.in-Sub.is) c.own_exchange.ensures.taken)
