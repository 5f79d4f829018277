use Rattle.std.proofs.Common.{rules}
use Rattle.picture_svg.specs.Svg.{part}
use Rattle.picture_svg.proofs.Growing.{numbered-more, numbered-end}
use Rattle.picture_svg.proofs.columns.push_shares.Goals as goal

pub loop-worker-preserved : goal.loop-worker-preserved
loop-worker-preserved c =
    numbered-more (part c.args.x c.args.width c.args.count) c.args.shares.now c.loop-worker.worker 0 c.loop-worker.text.items c.push_part.new.text.items _ (search rules) (search rules) c.loop-worker.invariant

pub returns : goal.returns
returns c = numbered-end (part c.args.x c.args.width c.args.count) c.args.shares.now c.loop-worker.worker c.loop-worker.text.items _ (search rules) c.loop-worker.invariant
