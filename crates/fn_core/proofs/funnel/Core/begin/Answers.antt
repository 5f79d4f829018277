use Rattle.std.proofs.Common.{◌≡◌, ◌<◌, List, ◌++◌, sym, ◌∙◌, ap, subst}
use Rattle.fn_core.specs.declared.Event.{Event}
use Rattle.fn_core.specs.State.{Start, State, opened}
use Rattle.fn_core.specs.Machine.{MaySpend, Legal, run}
use Rattle.fn_core.specs.Fields.{Stands}
use Rattle.fn_core.specs.Begin.{finds_in, begin_moves, begun}
use Rattle.fn_core.specs.Calls.{CoreLog, IsIdle, LeavesOthers, state_in, with_moves}
use Rattle.fn_core.proofs.Left.{moves_leave_others}
use Rattle.fn_core.proofs.Pushed.{with_moves_log}
use Rattle.fn_core.proofs.Told.{after_waits, after_made, after_spent, after_refused, after_blocked, after_chosen}
use Rattle.fn_core.proofs.Waits.{begin_happens}
use Rattle.fn_core.proofs.Short.{begin_short}
use Rattle.fn_core.proofs.funnel.Core.begin.Goals as goal

pub take_all-requires : goal.take_all-requires
take_all-requires c =
    let m = c.self.inside.machine in
    let log : List Event = c.self.inside.log in
    let s : State = run m.start log (opened m.start) in
    let inside : c.args.pass < m.start.shape.passes = subst (λ (v : CoreLog). c.args.pass < v.start.shape.passes) (sym c.self.view_is) c.requires.in_range in
    let idle : IsIdle (record { start = m.start; log = log }) c.args.pass = subst (λ (v : CoreLog). IsIdle v c.args.pass) (sym c.self.view_is) c.requires.idle in
    let spend : MaySpend s c.args.pass c.args.amount = subst (λ (v : CoreLog). MaySpend (state_in v) c.args.pass c.args.amount) (sym c.self.view_is) c.requires.amount in (
      log,
      c.self.invariant,
      subst (λ (xs : List Event). Legal m.start xs s) (sym (c.deref-2.ensures.value ∙ c.in_ok-events.ensures.steps s c.self.invariant.fields))
          (begin_happens m.start s c.args.pass inside c.args.kind c.requires.change c.args.amount idle spend),
    )

pub invariant_of-self : goal.invariant_of-self
invariant_of-self c =
    let m = c.self.inside.machine in
    let log : List Event = c.self.inside.log in
    let s : State = run m.start log (opened m.start) in
    let inside : c.args.pass < m.start.shape.passes = subst (λ (v : CoreLog). c.args.pass < v.start.shape.passes) (sym c.self.view_is) c.requires.in_range in
    let idle : IsIdle (record { start = m.start; log = log }) c.args.pass = subst (λ (v : CoreLog). IsIdle v c.args.pass) (sym c.self.view_is) c.requires.idle in
    let spend : MaySpend s c.args.pass c.args.amount = subst (λ (v : CoreLog). MaySpend (state_in v) c.args.pass c.args.amount) (sym c.self.view_is) c.requires.amount in
    let legal : Legal m.start c.deref-2.result.now s = subst (λ (xs : List Event). Legal m.start xs s) (sym (c.deref-2.ensures.value ∙ c.in_ok-events.ensures.steps s c.self.invariant.fields))
    (begin_happens m.start s c.args.pass inside c.args.kind c.requires.change c.args.amount idle spend) in
    subst (Stands c.take_all.new.self) (ap (λ (xs : List Event). log ++ xs) (c.deref-2.ensures.value ∙ sym c.deref.ensures.value) ∙ sym c.extend.ensures)
    (c.take_all.ensures.stands log c.self.invariant legal)

pub returns-clause-taken : goal.returns-clause-taken
returns-clause-taken c =
    let m = c.self.inside.machine in
    let log : List Event = c.self.inside.log in
    let s : State = run m.start log (opened m.start) in
    let core : CoreLog = record { start = m.start; log = log } in
    let logged : Start → List Event → CoreLog = λ start xs. record { start = start; log = xs } in
    let steps = begin_moves m.start s c.args.pass c.args.kind c.args.amount in
    let now : CoreLog = record { start = c.take_all.new.self.start; log = c.extend.new.self } in
    subst (λ (v : CoreLog). now ≡ with_moves v c.args.pass (begin_moves v.start (state_in v) c.args.pass c.args.kind c.args.amount)) c.self.view_is
    (ap (λ (start : Start). logged start c.extend.new.self) c.take_all.ensures.start
    ∙ ap (logged m.start) (c.extend.ensures ∙ ap (λ (xs : List Event). log ++ xs) (c.deref.ensures.value ∙ c.in_ok-events.ensures.steps s c.self.invariant.fields))
    ∙ sym (with_moves_log core c.args.pass steps))

pub returns-clause-waits : goal.returns-clause-waits
returns-clause-waits c =
    let told = subst (λ (v : CoreLog). c.in_ok-events.told ≡ begun v.start (state_in v) c.args.pass c.args.kind) c.self.view_is (c.in_ok-events.ensures.told (run c.self.inside.machine.start c.self.inside.log (opened c.self.inside.machine.start)) c.self.invariant.fields) in
    after_waits c.args.self.now _ c.args.pass c.requires.in_range c.args.kind c.requires.change c.args.amount c.requires.idle (returns-clause-taken c) c.in_ok-events.told told

pub returns-clause-made : goal.returns-clause-made
returns-clause-made c =
    let told = subst (λ (v : CoreLog). c.in_ok-events.told ≡ begun v.start (state_in v) c.args.pass c.args.kind) c.self.view_is (c.in_ok-events.ensures.told (run c.self.inside.machine.start c.self.inside.log (opened c.self.inside.machine.start)) c.self.invariant.fields) in
    after_made c.args.self.now _ c.args.pass c.requires.in_range c.args.kind c.requires.change c.args.amount c.requires.idle (returns-clause-taken c) c.in_ok-events.told told

pub returns-clause-spends : goal.returns-clause-spends
returns-clause-spends c =
    let told = subst (λ (v : CoreLog). c.in_ok-events.told ≡ begun v.start (state_in v) c.args.pass c.args.kind) c.self.view_is (c.in_ok-events.ensures.told (run c.self.inside.machine.start c.self.inside.log (opened c.self.inside.machine.start)) c.self.invariant.fields) in
    after_spent c.args.self.now _ c.args.pass c.requires.in_range c.args.kind c.requires.change c.args.amount c.requires.idle (returns-clause-taken c) c.in_ok-events.told told c.requires.amount

pub returns-clause-refused : goal.returns-clause-refused
returns-clause-refused c =
    let told = subst (λ (v : CoreLog). c.in_ok-events.told ≡ begun v.start (state_in v) c.args.pass c.args.kind) c.self.view_is (c.in_ok-events.ensures.told (run c.self.inside.machine.start c.self.inside.log (opened c.self.inside.machine.start)) c.self.invariant.fields) in
    after_refused c.args.self.now _ c.args.pass c.requires.in_range c.args.kind c.requires.change c.args.amount c.requires.idle (returns-clause-taken c) c.in_ok-events.told told

pub returns-clause-blocked : goal.returns-clause-blocked
returns-clause-blocked c =
    let told = subst (λ (v : CoreLog). c.in_ok-events.told ≡ begun v.start (state_in v) c.args.pass c.args.kind) c.self.view_is (c.in_ok-events.ensures.told (run c.self.inside.machine.start c.self.inside.log (opened c.self.inside.machine.start)) c.self.invariant.fields) in
    after_blocked c.args.self.now _ c.args.pass c.requires.in_range c.args.kind c.requires.change c.args.amount c.requires.idle (returns-clause-taken c) c.in_ok-events.told told

pub returns-clause-others : goal.returns-clause-others
returns-clause-others c =
    let m = c.self.inside.machine in
    let log : List Event = c.self.inside.log in
    let s : State = run m.start log (opened m.start) in
    let core : CoreLog = record { start = m.start; log = log } in
    let inside : c.args.pass < m.start.shape.passes = subst (λ (v : CoreLog). c.args.pass < v.start.shape.passes) (sym c.self.view_is) c.requires.in_range in
    let idle : IsIdle core c.args.pass = subst (λ (v : CoreLog). IsIdle v c.args.pass) (sym c.self.view_is) c.requires.idle in
    let spend : MaySpend s c.args.pass c.args.amount = subst (λ (v : CoreLog). MaySpend (state_in v) c.args.pass c.args.amount) (sym c.self.view_is) c.requires.amount in
    let left : LeavesOthers core (with_moves core c.args.pass (begin_moves m.start s c.args.pass c.args.kind c.args.amount)) c.args.pass =
    moves_leave_others core (c.self.invariant.start_ok, c.self.invariant.legal) c.args.pass inside (begin_moves m.start s c.args.pass c.args.kind c.args.amount)
    (begin_happens m.start s c.args.pass inside c.args.kind c.requires.change c.args.amount idle spend) in
    let seen : LeavesOthers c.args.self.now (with_moves c.args.self.now c.args.pass (begin_moves c.args.self.now.start (state_in c.args.self.now) c.args.pass c.args.kind c.args.amount)) c.args.pass =
    subst (λ (v : CoreLog). LeavesOthers v (with_moves v c.args.pass (begin_moves v.start (state_in v) c.args.pass c.args.kind c.args.amount)) c.args.pass) c.self.view_is left in
    subst (λ (x : CoreLog). LeavesOthers c.args.self.now x c.args.pass) (sym (returns-clause-taken c)) seen

pub returns-clause-chosen : goal.returns-clause-chosen
returns-clause-chosen c =
    let told = subst (λ (v : CoreLog). c.in_ok-events.told ≡ begun v.start (state_in v) c.args.pass c.args.kind) c.self.view_is (c.in_ok-events.ensures.told (run c.self.inside.machine.start c.self.inside.log (opened c.self.inside.machine.start)) c.self.invariant.fields) in
    after_chosen c.args.self.now _ c.args.pass c.requires.in_range c.args.kind c.requires.change c.args.amount c.requires.idle (returns-clause-taken c) c.in_ok-events.told told

pub returns-clause-few : goal.returns-clause-few
returns-clause-few c = let core = c.args.self.now in begin_short core.start.shape c.args.pass c.args.kind (finds_in core.start (state_in core) c.args.kind c.args.pass) c.args.amount
