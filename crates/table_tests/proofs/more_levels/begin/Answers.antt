use Rattle.std.proofs.Common.{ℕ, ◌<◌, [], subst, arith}
use Rattle.table_tests.proofs.Levels.{at_saw_leaf, at_told, at_waiting, may_begin, may_announce, may_arrive_leaf}
use Rattle.table_tests.proofs.more_levels.begin.Goals as goal

pub announce-requires-clause-may : goal.announce-requires-clause-may
announce-requires-clause-may c =
    let p = c.args.pass.now in
    let within = subst (λ (n : ℕ). n < p.seen.start.shape.passes) c.number-number.ensures.number c.number-number.ensures.in_range in
    may_announce c.args.table.now c.args.number _ 1 [] _ (at_saw_leaf c.args.table.now c.args.number p _ c.requires.rests within _ c.see-seen.ensures)

pub announce-requires-clause-seen : goal.announce-requires-clause-seen
announce-requires-clause-seen c =
    let p = c.args.pass.now in
    let within = subst (λ (n : ℕ). n < p.seen.start.shape.passes) c.number-number.ensures.number c.number-number.ensures.in_range in
    (at_saw_leaf c.args.table.now c.args.number p _ c.requires.rests within _ c.see-seen.ensures).stage

pub arrive-at-requires-clause-may : goal.arrive-at-requires-clause-may
arrive-at-requires-clause-may c =
    let p = c.args.pass.now in
    let within = subst (λ (n : ℕ). n < p.seen.start.shape.passes) c.number-number.ensures.number c.number-number.ensures.in_range in
    let saw = at_saw_leaf c.args.table.now c.args.number p _ c.requires.rests within _ c.see-seen.ensures in
    may_arrive_leaf c.args.table.now c.args.number _ _ c.args.amount (omega (arith, c.if-amount-lt1.false)) (omega (arith, c.if-left-amount.false, c.allowance-left.ensures)) (at_told c.args.table.now c.args.number _ _ 1 _ [] _ saw c.announce.ensures.1)

pub returns : goal.returns
returns c =
    let p = c.args.pass.now in
    let within = subst (λ (n : ℕ). n < p.seen.start.shape.passes) c.number-number.ensures.number c.number-number.ensures.in_range in
    let saw = at_saw_leaf c.args.table.now c.args.number p _ c.requires.rests within _ c.see-seen.ensures in
    record { waits = at_waiting c.args.table.now c.args.number _ _ 1 _ [] _ c.args.amount (at_told c.args.table.now c.args.number _ _ 1 _ [] _ saw c.announce.ensures.1) c.arrive-at.ensures }

pub see-seen-requires-clause-may : goal.see-seen-requires-clause-may
see-seen-requires-clause-may c =
    let p = c.args.pass.now in
    let within = subst (λ (n : ℕ). n < p.seen.start.shape.passes) c.number-number.ensures.number c.number-number.ensures.in_range in
    may_begin c.args.table.now c.args.number p p c.requires.rests within (c.is_new-new.ensures c.if-not-new.false)
