use Rattle.fn_climb.proofs.Moves.{level_low}
use Rattle.fn_climb.proofs.Tops.{may_see, saw_above, below_top, top_at, not_added}
use Rattle.fn_climb.proofs.stepping.go_up.Goals as goal

pub see-seen-requires-clause-may : goal.see-seen-requires-clause-may
see-seen-requires-clause-may c = may_see c.requires.holds c.requires.free c.requires.shut.2 (below_top c.requires.together.1 c.shape.ensures c.levels.ensures c.if-course-levels.true)

pub rise-requires-clause-low : goal.rise-requires-clause-low
rise-requires-clause-low c = level_low c.requires.holds

pub returns-then-course-levels : goal.returns-then-course-levels
returns-then-course-levels c = rw c.rise.ensures (saw_above c.requires.holds c.requires.free c.requires.shut.2 (below_top c.requires.together.1 c.shape.ensures c.levels.ensures c.if-course-levels.true) c.see-seen.ensures)

pub apply-requires-clause-top : goal.apply-requires-clause-top
apply-requires-clause-top c = top_at c.requires.holds c.requires.together.1 c.shape.ensures c.levels.ensures c.if-course-levels.false

pub load-requires-clause-top : goal.load-requires-clause-top
load-requires-clause-top c = top_at c.requires.holds c.requires.together.1 c.shape.ensures c.levels.ensures c.if-course-levels.false

pub load-requires-in_default-clause-top : goal.load-requires-in_default-clause-top
load-requires-in_default-clause-top c = top_at c.requires.holds c.requires.together.1 c.shape.ensures c.levels.ensures c.if-course-levels.false

pub load-requires-in_default-clause-tries : goal.load-requires-in_default-clause-tries
load-requires-in_default-clause-tries c = not_added c.args.course.now.kind _ c.in_default.not-Add
