use Rattle.std.proofs.Common.{◌<◌, length, ap, arith}
use Rattle.fn_rounds.proofs.LineOrders.{no_line}
use Rattle.fn_rounds.proofs.Gathered.{place_is, few_before, reply_left, replies_found, come_more}
use Rattle.fn_rounds.proofs.answering.answers.Goals as goal

pub overflow_add-at : goal.overflow_add-at
overflow_add-at c =
    let i = c.loop-line.line-index in
    let within : i < length c.args.lines.now = omega arith in
    let here = c.requires.there i no_line within in
    let place = place_is c.args.lines.now i within c.args.replies.now c.loop-line.next.items c.loop-line.answers.items c.loop-line.invariant here c.requires.counts c.index-at.result.now c.index-at.ensures in
    omega (arith, within, place, few_before c.args.lines.now i within c.args.replies.now c.loop-line.next.items c.loop-line.answers.items c.loop-line.invariant here c.requires.counts)

pub reply_at-requires : goal.reply_at-requires
reply_at-requires c =
    let i = c.loop-line.line-index in
    let within : i < length c.args.lines.now = omega arith in
    let here = c.requires.there i no_line within in
    let place = place_is c.args.lines.now i within c.args.replies.now c.loop-line.next.items c.loop-line.answers.items c.loop-line.invariant here c.requires.counts c.index-at.result.now c.index-at.ensures in
    let found = ap length (replies_found c.args.lines.now i within c.args.replies.now c.loop-line.next.items c.loop-line.answers.items c.loop-line.invariant here c.requires.counts c.index-replies-pass.result c.index-replies-pass.is) in
    omega (arith, place, found, reply_left c.args.lines.now i within c.args.replies.now c.loop-line.next.items c.loop-line.answers.items c.loop-line.invariant here c.requires.counts)

pub loop-line-preserved : goal.loop-line-preserved
loop-line-preserved c =
    let i = c.loop-line.line-index in
    let within : i < length c.args.lines.now = omega arith in
    let here = c.requires.there i no_line within in
    come_more c.args.lines.now i within c.args.replies.now c.loop-line.next.items c.loop-line.answers.items c.loop-line.invariant here c.requires.counts c.index-at.result.now c.index-replies-pass.result c.reply_at.result
    c.push.new.self.items c.index-at.ensures c.index-replies-pass.is c.reply_at.ensures c.in_ok-push.ensures.items
