use Rattle.std.proofs.Common.{ap, subst}
use Rattle.fn_core.specs.declared.Move.TheVariants.{Point}
use Rattle.fn_layout.proofs.Rows.{row_behind}
use Rattle.fn_table.specs.declared.spots.Spot.{Spot}
use Rattle.fn_table.specs.Seen.{PassView, Stepped}
use Rattle.fn_table.specs.Kept.{Keeps}
use Rattle.fn_table.proofs.Owes.{named, may_as}
use Rattle.fn_table.proofs.Published.{keeps_point}
use Rattle.fn_table.proofs.climbing.point.Goals as goal

pub spot-first-requires-clause-funnelled : goal.spot-first-requires-clause-funnelled
spot-first-requires-clause-funnelled c = (named c.args.pass.now (Point c.args.kind c.args.level c.args.row) c.number-number.ensures.legal c.requires.may).0

pub spot-first-requires-clause-level : goal.spot-first-requires-clause-level
spot-first-requires-clause-level c = (named c.args.pass.now (Point c.args.kind c.args.level c.args.row) c.number-number.ensures.legal c.requires.may).1

pub store-requires-clause-may : goal.store-requires-clause-may
store-requires-clause-may c = may_as (Point c.args.kind c.args.level c.args.row) c.pass.view_is c.requires.may

pub overflow_sub-pass : goal.overflow_sub-pass
overflow_sub-pass c =
    let may = c.requires.may in
    (row_behind c.args.pass.now.seen.start.shape c.args.pass.now.number c.args.kind c.args.level may.1.2.0 may.1.2.1 (ap (λ (x : Spot). x.row) c.spot-first.ensures)).0

pub invariant_of-pass : goal.invariant_of-pass
invariant_of-pass c =
    let p = c.args.pass.now in
    let k = subst (λ (x : PassView). Keeps x c.pass.inside.tally) c.pass.view_is c.pass.invariant in
    let s = subst (λ (x : PassView). Stepped x (Point c.args.kind c.args.level c.args.row) c.store.ensures.0 c.store.new.caller) c.pass.view_is c.store.ensures.1 in
    let behind = (row_behind p.seen.start.shape p.number c.args.kind c.args.level c.requires.may.1.2.0 c.requires.may.1.2.1 (ap (λ (x : Spot). x.row) c.spot-first.ensures)).1 in
    keeps_point p _ c.args.kind c.args.level c.args.row _ _ c.pass.inside.tally behind c.number-number.ensures.legal c.requires.may k s
