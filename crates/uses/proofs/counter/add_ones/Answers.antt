-- One more addition of 1.
use Rattle.std.proofs.Common.{arith}
use Rattle.uses.proofs.Counts.{added_none, added_one}
use Rattle.uses.proofs.counter.add_ones.Goals as goal

pub loop-done-init : goal.loop-done-init
loop-done-init g c = record {
  together = c.requires.together;
  rests = c.requires.rests;
  room = omega (arith, c.requires.whole);
  added = added_none c.args.funnel.now c.args.times c.args.pass c.requires;
}

pub loop-done-preserved : goal.loop-done-preserved
loop-done-preserved g c =
    let so_far = c.loop-done.invariant in
    let made = c.add-next.ensures.made in
    let added = added_one c.args.funnel.now c.args.pass c.loop-done.pass c.add-next.result.0 c.loop-done._done c.add-next.result.1.before so_far.added made in
    record { together = added.follows.together; rests = added.follows.rests; room = omega (arith, so_far.room, made.spent); added = added }
