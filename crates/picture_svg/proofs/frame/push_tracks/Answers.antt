use Rattle.std.proofs.Common.{rules, arith}
use Rattle.picture_svg.specs.Svg.{track, tracks}
use Rattle.picture_svg.proofs.Growing.{below-more, below-end}
use Rattle.picture_svg.proofs.frame.push_tracks.Goals as goal

pub loop-worker-preserved : goal.loop-worker-preserved
loop-worker-preserved c =
    below-more track c.args.workers c.loop-worker.worker c.loop-worker.text.items c.push_track.new.text.items _ (search rules) (search rules) c.loop-worker.invariant

pub returns : goal.returns
unfolding tracks
returns c = below-end track c.args.workers c.loop-worker.worker c.loop-worker.text.items _ (omega arith) c.loop-worker.invariant
