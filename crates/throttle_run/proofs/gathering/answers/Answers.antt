use Rattle.std.proofs.Common.{◌<◌, List, length, ap, ◌∙◌, subst, arith, take_all}
use Rattle.throttle_run.specs.declared.lines.ThrottleLine.{ThrottleLine}
use Rattle.throttle_run.proofs.Dealt.{no_line}
use Rattle.throttle_run.proofs.Gathered.{HaveCome, place_is, few_before, job_left, come_more, all_come}
use Rattle.throttle_run.proofs.gathering.answers.Goals as goal

pub overflow_add-at : goal.overflow_add-at
overflow_add-at c =
    let i = c.loop-line.line-index in
    let within : i < length c.args.lines.now = omega arith in
    let here = c.requires.there i no_line within in
    let place = place_is c.args.all.now c.args.lines.now c.requires.dealt i within c.loop-line.next.items c.loop-line.answers.items c.loop-line.invariant here c.index-at.result.now c.index-at.ensures in
    omega (arith, within, place, few_before c.args.all.now c.args.lines.now c.requires.dealt i within c.loop-line.next.items c.loop-line.answers.items c.loop-line.invariant here)

pub told_at-requires : goal.told_at-requires
told_at-requires c =
    let i = c.loop-line.line-index in
    let within : i < length c.args.lines.now = omega arith in
    let here = c.requires.there i no_line within in
    let place = place_is c.args.all.now c.args.lines.now c.requires.dealt i within c.loop-line.next.items c.loop-line.answers.items c.loop-line.invariant here c.index-at.result.now c.index-at.ensures in
    omega (arith, place, job_left c.args.all.now c.args.lines.now c.requires.dealt i within c.loop-line.next.items c.loop-line.answers.items c.loop-line.invariant here c.index-all-worker.result)

pub loop-line-preserved : goal.loop-line-preserved
loop-line-preserved c =
    let i = c.loop-line.line-index in
    let within : i < length c.args.lines.now = omega arith in
    let here = c.requires.there i no_line within in
    come_more c.args.all.now c.args.lines.now c.requires.dealt i within c.loop-line.next.items c.loop-line.answers.items c.loop-line.invariant here c.index-all-worker.result
    c.index-at.result.now c.told_at.result c.push.new.self.items c.index-at.ensures c.told_at.ensures c.in_ok-push.ensures.items

pub returns-clause-one_each : goal.returns-clause-one_each
returns-clause-one_each c = c.loop-line.invariant.one_each ∙ ap length (take_all c.loop-line.line-index c.args.lines.now c.loop-line-test.false)

pub returns-clause-sorted : goal.returns-clause-sorted
returns-clause-sorted c =
    all_come c.args.all.now c.args.lines.now c.requires.dealt c.loop-line.next.items c.loop-line.answers.items
    (subst (λ (ls : List ThrottleLine). HaveCome c.args.all.now ls c.loop-line.next.items c.loop-line.answers.items) (take_all c.loop-line.line-index c.args.lines.now c.loop-line-test.false) c.loop-line.invariant)
