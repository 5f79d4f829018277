use Rattle.std.proofs.Common.{◌≡◌, ◌≢◌, ◌≤◌, ℕ, Result, refl, sym, subst}
use Rattle.std.specs.Arc.{arc_value}
use Rattle.fn_core.specs.Machine.{no_cap}
use Rattle.fn_table.specs.Seen.{TableView}
use Rattle.fn_callers.specs.declared.caller.Reason.{Reason}
use Rattle.fn_table.specs.Claims.{left}
use Rattle.fn_callers.specs.Callers.{CallerView, at_rest}
use Rattle.fn_callers.specs.declared.caller.Standing.TheVariants.{Idle}
use Rattle.fn_callers.specs.Told.{ChangeTold}
use Rattle.fn_callers.specs.Ways.{ChangeWay}
use Rattle.fn_callers.proofs.Stands.{stands_as}
use Rattle.fn_callers.proofs.caller.Caller.change.Goals.{in-Ok, in-Err}
use Rattle.fn_callers.proofs.caller.Caller.change.Goals as goal

pub returns-clause-told : goal.returns-clause-told
returns-clause-told c =
    let t = arc_value c.self.inside.table in
    let old = at_rest t c.in-Idle.pass in
    let new = at_rest t c.change.new.pass in
    let was : c.args.self.now ≡ old = stands_as t c.self.inside.first.value c.self.inside.standing (Idle c.in-Idle.pass) c.in-Idle.is c.args.self.now c.self.view_is in
    let some : 1 ≤ c.args.amount = c.if-amount-lt1.false in
    let within : c.args.amount ≤ left c.in-Idle.pass = subst (λ (n : ℕ). c.args.amount ≤ n) c.allowance.ensures c.if-allowance-amount.false in
    subst (λ (v : CallerView). ChangeTold v c.args.kind c.args.amount c.match-change.result new) (sym was)
    (elim c.match-change.branch [
      | in-Ok w ↦ subst (λ (r : Result ℕ Reason). ChangeTold old c.args.kind c.args.amount r new) (sym w.result-is) (refl, (some, within), refl)
      | in-Err w ↦ subst (λ (r : Result ℕ Reason). ChangeTold old c.args.kind c.args.amount r new) (sym w.result-is) (refl, (some, within), refl, w.in-Err.ensures.none, λ is. subst (λ (v : TableView). v.start.cap ≢ no_cap) c.deref.ensures (w.in-Err.ensures.capped is))
    ])

pub returns-clause-way : goal.returns-clause-way
returns-clause-way c =
    let t = arc_value c.self.inside.table in
    let old = at_rest t c.in-Idle.pass in
    let new = at_rest t c.change.new.pass in
    let was : c.args.self.now ≡ old = stands_as t c.self.inside.first.value c.self.inside.standing (Idle c.in-Idle.pass) c.in-Idle.is c.args.self.now c.self.view_is in
    subst (λ (v : CallerView). ChangeWay v c.args.kind c.args.amount c.match-change.result new) (sym was)
    (elim c.match-change.branch [
      | in-Ok w ↦ subst (λ (r : Result ℕ Reason). ChangeWay old c.args.kind c.args.amount r new) (sym w.result-is) w.in-Ok.ensures.called
      | in-Err w ↦ subst (λ (r : Result ℕ Reason). ChangeWay old c.args.kind c.args.amount r new) (sym w.result-is) w.in-Err.ensures.lost
    ])
