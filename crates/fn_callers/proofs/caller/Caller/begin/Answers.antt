use Rattle.std.proofs.Common.{◌≡◌, ◌≤◌, ℕ, Ok, refl, sym, ◌∙◌, subst}
use Rattle.std.specs.Arc.{arc_value}
use Rattle.fn_table.specs.Claims.{left}
use Rattle.fn_callers.specs.Callers.{CallerView, at_rest}
use Rattle.fn_callers.specs.declared.caller.Standing.TheVariants.{Idle, Waits}
use Rattle.fn_callers.specs.Told.{BeginTold}
use Rattle.fn_callers.specs.Ways.{BeginWay}
use Rattle.fn_callers.proofs.Stands.{view_of, stands_as, begun_call}
use Rattle.fn_callers.proofs.caller.Caller.begin.Goals as goal

pub returns-in-Ok-clause-told : goal.returns-in-Ok-clause-told
returns-in-Ok-clause-told c =
    let t = arc_value c.self.inside.table in
    let first = c.self.inside.first.value in
    let was : c.args.self.now ≡ at_rest t c.in-Idle.pass = stands_as t first c.self.inside.standing (Idle c.in-Idle.pass) (sym c.replace.ensures.value ∙ c.in-Idle.is) c.args.self.now c.self.view_is in
    let within : c.args.amount ≤ left c.in-Idle.pass = subst (λ (n : ℕ). c.args.amount ≤ n) c.allowance.ensures c.if-allowance-amount.false in
    subst (λ (v : CallerView). BeginTold v c.args.kind c.args.amount (Ok tt) (view_of t first (Waits c.in-Ok.waiting))) (sym was)
    (refl, (c.if-amount-lt1.false, within), begun_call t first c.in-Idle.pass c.args.kind c.args.amount c.in-Ok.waiting c.in-Ok.ensures.given c.in-Ok.ensures.begun)

pub returns-in-Ok-clause-way : goal.returns-in-Ok-clause-way
returns-in-Ok-clause-way c =
    let t = arc_value c.self.inside.table in
    let first = c.self.inside.first.value in
    let was : c.args.self.now ≡ at_rest t c.in-Idle.pass = stands_as t first c.self.inside.standing (Idle c.in-Idle.pass) (sym c.replace.ensures.value ∙ c.in-Idle.is) c.args.self.now c.self.view_is in
    subst (λ (v : CallerView). BeginWay v c.args.kind c.args.amount (Ok tt) (view_of t first (Waits c.in-Ok.waiting))) (sym was) c.in-Ok.ensures.begun
