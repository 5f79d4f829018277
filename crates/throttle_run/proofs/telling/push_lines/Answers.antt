use Rattle.std.proofs.Common.{◌++◌, arith}
use Rattle.throttle_run.specs.Throttled.{lines_text}
use Rattle.throttle_run.proofs.Gathered.{line_pushed, lines_pushed}
use Rattle.throttle_run.proofs.telling.push_lines.Goals as goal

pub loop-i-preserved : goal.loop-i-preserved
loop-i-preserved c =
    line_pushed c.args.lines.now c.args.answers.now c.loop-i.i c.loop-i.text.items c.push_line.new.text.items (c.args.text.now.items ++ lines_text c.args.lines.now c.args.answers.now) (omega arith) c.requires
    c.in_ok-push_line.ensures c.loop-i.invariant

pub returns : goal.returns
returns c = lines_pushed c.args.lines.now c.args.answers.now c.loop-i.i c.loop-i.text.items (c.args.text.now.items ++ lines_text c.args.lines.now c.args.answers.now) c.loop-i-test.false c.loop-i.invariant
