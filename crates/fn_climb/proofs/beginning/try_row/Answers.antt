use Rattle.std.proofs.Common.{◌≡◌, ap, sym, ◌∙◌, arith}
use Rattle.fn_layout.proofs.Tree.{aggregator_below}
use Rattle.fn_core.proofs.Public.{lets_where, blocks_where}
use Rattle.fn_table.specs.declared.spots.Spot.{Spot}
use Rattle.fn_climb.proofs.Scans.{is_member, member_skip, member_more, member_stop, members_through, row_start, row_unused}
use Rattle.fn_climb.proofs.beginning.try_row.Goals as goal

pub returns-then-end-eq0 : goal.returns-then-end-eq0
returns-then-end-eq0 c = row_unused c.args.pass.now c.args.kind c.args.level c.args.row c.number-number.ensures.legal (sym c.row_end-end.ensures ∙ c.if-end-eq0.true)

pub loop-member-init : goal.loop-member-init
loop-member-init c = row_start c.args.pass.now c.args.kind c.args.level c.args.row c.number-number.ensures.legal

pub pass_of-other-requires-clause-index_in_range : goal.pass_of-other-requires-clause-index_in_range
pass_of-other-requires-clause-index_in_range c =
    let p = c.args.pass.now in
    rw (c.shape_of-shape.ensures, c.spot-spot.ensures) (aggregator_below p.seen.start.shape p.number c.args.level)

pub loop-member-preserved-then-other-number : goal.loop-member-preserved-then-other-number
loop-member-preserved-then-other-number c =
    let at = is_member c.args.pass.now c.args.kind c.args.level c.args.row c.shape_of-shape.ensures c.spot-spot.ensures c.loop-member-test.true c.pass_of-other.ensures.exact in
    member_skip c.args.pass.now c.args.kind c.args.level c.args.row at c.loop-member.invariant (c.if-other-number.true ∙ c.number-number.ensures.number)

pub returns-then-not-lets : goal.returns-then-not-lets
returns-then-not-lets c =
    let at = is_member c.args.pass.now c.args.kind c.args.level c.args.row c.shape_of-shape.ensures c.spot-spot.ensures c.loop-member-test.true c.pass_of-other.ensures.exact in
    let blocked = rw c.row_end-end.ensures at (blocks_where c.scan-word.result c.row_end-end.result c.lets.result c.lets.ensures c.if-not-lets.true) in
    member_stop c.args.pass.now c.args.kind c.args.level c.args.row at c.loop-member.invariant (λ same. c.if-other-number.false (same ∙ sym c.number-number.ensures.number)) c.scan-word.ensures (λ never. c.if-end-eq0.false (c.row_end-end.ensures ∙ never)) blocked

pub loop-member-preserved : goal.loop-member-preserved
loop-member-preserved c =
    let at = is_member c.args.pass.now c.args.kind c.args.level c.args.row c.shape_of-shape.ensures c.spot-spot.ensures c.loop-member-test.true c.pass_of-other.ensures.exact in
    let holds = rw c.row_end-end.ensures at (c.lets.ensures.0 c.if-not-lets.false) in
    let lets_it = rw c.row_end-end.ensures at (lets_where c.scan-word.result c.row_end-end.result c.lets.result c.lets.ensures c.if-not-lets.false) in
    member_more c.args.pass.now c.args.kind c.args.level c.args.row at c.loop-member.invariant (λ same. c.if-other-number.false (same ∙ sym c.number-number.ensures.number)) c.scan-word.ensures holds lets_it

pub returns : goal.returns
returns c =
    let last : c.loop-member.member ≡ c.spot-spot.result.members = omega (arith, c.loop-member-test.false, c.loop-member.auto.member-end) in
    members_through c.args.pass.now c.args.kind c.args.level c.args.row c.loop-member.invariant (last ∙ ap (λ (x : Spot). x.members) c.spot-spot.ensures) (λ never. c.if-end-eq0.false (c.row_end-end.ensures ∙ never))
