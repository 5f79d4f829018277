use Rattle.std.proofs.Common.{◌≡◌, ℕ, sym, ◌∙◌, ap, subst, arith}
use Rattle.fn_layout.specs.Words.{IsSlot}
use Rattle.fn_layout.specs.Tree.{aggregator}
use Rattle.fn_layout.proofs.Members.{members_are_numbered}
use Rattle.fn_rows.specs.Machine as rows
use Rattle.fn_core.specs.State.{stage}
use Rattle.fn_core.specs.Calls.{CoreLog, IsLegal, state_in}
use Rattle.fn_core.proofs.Taken.{in_rows, there}
use Rattle.fn_core.proofs.funnel.Core.stage.Goals as goal

pub index-requires : goal.index-requires
index-requires c =
    let slot = subst (λ (v : CoreLog). IsSlot v.start.shape c.args.pass c.args.kind c.args.level) (sym c.self.view_is) c.requires in
    in_rows c.self.inside.machine c.self.inside.log c.self.invariant c.args.pass c.args.kind c.args.level slot _ c.seat-place.ensures.place

pub stage-requires : goal.stage-requires
stage-requires c =
    let m = c.self.inside.machine in
    let slot = subst (λ (v : CoreLog). IsSlot v.start.shape c.args.pass c.args.kind c.args.level) (sym c.self.view_is) c.requires in
    let place = there m c.self.inside.log c.self.invariant c.args.pass c.args.kind c.args.level slot _ _ c.seat-place.ensures.place c.index.ensures in
    let few = (members_are_numbered m.start.shape c.args.pass c.args.level slot.0).0 in
    omega (arith, c.seat-place.ensures.member, place.members_are, few)

pub returns-clause-legal : goal.returns-clause-legal
returns-clause-legal c = subst IsLegal c.self.view_is (c.self.invariant.start_ok, c.self.invariant.legal)

pub returns-clause-exact : goal.returns-clause-exact
returns-clause-exact c =
    let m = c.self.inside.machine in
    let slot = subst (λ (v : CoreLog). IsSlot v.start.shape c.args.pass c.args.kind c.args.level) (sym c.self.view_is) c.requires in
    let core : CoreLog = record { start = m.start; log = c.self.inside.log } in
    let place = there m core.log c.self.invariant c.args.pass c.args.kind c.args.level slot _ _ c.seat-place.ensures.place c.index.ensures in
    let t = (state_in core).rows c.args.kind c.args.level (aggregator m.start.shape c.args.pass c.args.level) in
    subst (λ (v : CoreLog). c.stage.result ≡ stage v.start (state_in v) c.args.kind c.args.level c.args.pass) c.self.view_is
    (c.stage.ensures ∙ ap (λ (x : rows.State). x.stage c.seat-place.result.1) place.state_is ∙ ap (λ (n : ℕ). t.stage n) c.seat-place.ensures.member)
