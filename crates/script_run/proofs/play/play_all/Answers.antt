use Rattle.std.proofs.Common.{refl, ◌∙◌}
use Rattle.script_run.proofs.OneByOne.{ready-on, so-far-next}
use Rattle.script_run.proofs.play.play_all.Goals as goal

pub loop-line-preserved : goal.loop-line-preserved
loop-line-preserved c = record {
  so_far = so-far-next c.args.core.now c.loop-line.core c.take_line.new.core c.args.text.now.items c.loop-line.text.items c.take_line.new.text.items c.args.lines.now c.loop-line.line-index _ _ c.loop-line-test.true refl c.loop-line.invariant.so_far c.in_ok-take_line.ensures.done;
  ready = ready-on c.loop-line.core c.take_line.new.core c.args.lines.now c.loop-line.line-index _ _ c.loop-line-test.true refl c.loop-line.invariant.ready c.in_ok-take_line.ensures.leaves;
  start = c.in_ok-take_line.ensures.leaves.start ∙ c.loop-line.invariant.start;
}
