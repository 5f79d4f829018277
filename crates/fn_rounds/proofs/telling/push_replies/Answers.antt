use Rattle.std.proofs.Common.{◌++◌, arith}
use Rattle.fn_rounds.specs.Script.{reply_lines}
use Rattle.fn_rounds.proofs.Gathered.{line_pushed, lines_pushed}
use Rattle.fn_rounds.proofs.telling.push_replies.Goals as goal

pub loop-i-preserved : goal.loop-i-preserved
loop-i-preserved c =
    line_pushed c.args.lines.now c.args.replies.now c.loop-i.i c.loop-i.text.items c.push_reply.new.text.items (c.args.text.now.items ++ reply_lines c.args.lines.now c.args.replies.now) (omega arith) c.requires
    c.in_ok-push_reply.ensures c.loop-i.invariant

pub returns : goal.returns
returns c = lines_pushed c.args.lines.now c.args.replies.now c.loop-i.i c.loop-i.text.items (c.args.text.now.items ++ reply_lines c.args.lines.now c.args.replies.now) c.loop-i-test.false c.loop-i.invariant
