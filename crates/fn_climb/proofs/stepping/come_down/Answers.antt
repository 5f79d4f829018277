use Rattle.std.proofs.Common.{arith}
use Rattle.fn_climb.proofs.Moves.{level_low, level_high}
use Rattle.fn_climb.proofs.Tops.{left_leaf, left_down}
use Rattle.fn_climb.proofs.stepping.come_down.Goals as goal

pub returns-then-level-eq1 : goal.returns-then-level-eq1
returns-then-level-eq1 c = (rw (c.after_capped-reply.ensures, c.cap.ensures, ← c.requires.together.1) (left_leaf c.requires.holds c.requires.free c.requires.got c.leave.ensures.1 c.if-level-eq1.true), tt)

pub sink-requires-clause-low : goal.sink-requires-clause-low
sink-requires-clause-low c = let low = level_low c.requires.holds in omega (arith, low, c.if-level-eq1.false)

pub sink-requires-clause-high : goal.sink-requires-clause-high
sink-requires-clause-high c = level_high c.requires.holds

pub returns : goal.returns
returns c = rw (c.sink.ensures, c.after_capped-reply.ensures, c.cap.ensures, ← c.requires.together.1) (left_down c.requires.holds c.requires.free c.requires.got c.leave.ensures.1 c.if-level-eq1.false)
