use Rattle.std.proofs.Common.{ℕ, ◌∙◌, ap, subst, arith}
use Rattle.std.specs.Prelude.{slice_set}
use Rattle.fn_core.specs.declared.Move.TheVariants.{Publish}
use Rattle.fn_table.specs.Seen.{PassView, Stepped}
use Rattle.fn_table.specs.Kept.{Keeps}
use Rattle.fn_table.proofs.Owes.{named}
use Rattle.fn_table.proofs.Published.{keeps_publish, end_there}
use Rattle.fn_table.proofs.climbing.publish.Goals as goal

pub spot-requires-clause-funnelled : goal.spot-requires-clause-funnelled
spot-requires-clause-funnelled c = (named c.args.pass.now (Publish c.args.kind c.args.level) c.number-number.ensures.legal c.requires.may).0

pub spot-requires-clause-level : goal.spot-requires-clause-level
spot-requires-clause-level c = (named c.args.pass.now (Publish c.args.kind c.args.level) c.number-number.ensures.legal c.requires.may).1

pub overflow_add-place : goal.overflow_add-place
overflow_add-place c =
    let p = c.args.pass.now in
    let k = subst (λ (x : PassView). Keeps x c.pass.inside.tally) c.pass.view_is c.pass.invariant in
    let n = named p (Publish c.args.kind c.args.level) c.number-number.ensures.legal c.requires.may in
    let there = end_there p.seen.start p.number _ _ k n.0 n.1 k.inside c.spot.ensures in
    omega (arith, there)

pub publish-requires : goal.publish-requires
publish-requires c =
    let p = c.args.pass.now in
    let k = subst (λ (x : PassView). Keeps x c.pass.inside.tally) c.pass.view_is c.pass.invariant in
    let n = named p (Publish c.args.kind c.args.level) c.number-number.ensures.legal c.requires.may in
    (end_there p.seen.start p.number _ _ k n.0 n.1 k.inside c.spot.ensures).2

pub invariant_of-pass : goal.invariant_of-pass
invariant_of-pass c =
    let p = c.args.pass.now in
    let t = c.pass.inside.tally in
    let step = Publish c.args.kind c.args.level in
    let k = subst (λ (x : PassView). Keeps x t) c.pass.view_is c.pass.invariant in
    let n = named p step c.number-number.ensures.legal c.requires.may in
    let there = end_there p.seen.start p.number _ _ k n.0 n.1 k.inside c.spot.ensures in
    let s = subst (λ (x : PassView). Stepped x step c.store.ensures.0 c.store.new.caller) c.pass.view_is c.store.ensures.1 in
    let e = c.publish.ensures in
    keeps_publish p _ c.args.kind c.args.level c.args.end _ t _ there.3 c.requires.may c.requires.end k s e.left e.calling e.pointed (e.ends ∙ ap (λ (x : ℕ). slice_set t.ends.items x c.args.end) there.0)
