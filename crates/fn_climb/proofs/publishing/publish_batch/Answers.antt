use Rattle.std.proofs.Common.{refl, arith}
use Rattle.fn_climb.proofs.Moves.{level_low, level_high, row_fits, may_choose}
use Rattle.fn_climb.proofs.Batch.{may_lo, stores_lo, may_base, stores_base, may_prev, stores_prev, may_point, may_publish, ends_there, batch_ran}
use Rattle.fn_climb.proofs.publishing.publish_batch.Goals as goal

pub overflow_sub-row : goal.overflow_sub-row
overflow_sub-row c =
    level_low c.requires.holds

pub bounds-course-level : goal.bounds-course-level
bounds-course-level c =
    let high = level_high c.requires.holds in omega (arith, high)

pub overflow_add-row : goal.overflow_add-row
overflow_add-row c =
    let few = (may_choose c.requires.holds c.requires.free c.requires.based refl).0 in
    let fits = row_fits c.requires.holds few c.spot_of.ensures in omega (arith, fits)

pub fill-requires-clause-may : goal.fill-requires-clause-may
fill-requires-clause-may c =
    may_lo c.requires.holds c.requires.free c.head-last.ensures c.requires.based c.spot_of.ensures

pub fill-requires-clause-word : goal.fill-requires-clause-word
fill-requires-clause-word c =
    stores_lo c.requires.holds c.requires.free c.head-last.ensures c.requires.based c.spot_of.ensures

pub fill-requires-2-clause-may : goal.fill-requires-2-clause-may
fill-requires-2-clause-may c =
    may_base c.requires.holds c.requires.free c.head-last.ensures c.requires.based c.spot_of.ensures c.fill.ensures.1

pub fill-requires-2-clause-word : goal.fill-requires-2-clause-word
fill-requires-2-clause-word c =
    stores_base c.requires.holds c.requires.free c.head-last.ensures c.requires.based c.spot_of.ensures c.fill.ensures.1

pub fill-requires-3-clause-may : goal.fill-requires-3-clause-may
fill-requires-3-clause-may c =
    may_prev c.requires.holds c.requires.free c.head-last.ensures c.requires.based c.spot_of.ensures c.fill.ensures.1 c.fill-2.ensures.1

pub fill-requires-3-clause-word : goal.fill-requires-3-clause-word
fill-requires-3-clause-word c =
    stores_prev c.requires.holds c.requires.free c.head-last.ensures c.requires.based c.spot_of.ensures c.fill.ensures.1 c.fill-2.ensures.1

pub point-requires-clause-may : goal.point-requires-clause-may
point-requires-clause-may c =
    may_point c.requires.holds c.requires.free c.head-last.ensures c.requires.based c.spot_of.ensures c.fill.ensures.1 c.fill-2.ensures.1 c.fill-3.ensures.1

pub publish-requires-clause-may : goal.publish-requires-clause-may
publish-requires-clause-may c =
    may_publish c.requires.holds c.requires.free c.head-last.ensures c.requires.based c.spot_of.ensures c.fill.ensures.1 c.fill-2.ensures.1 c.fill-3.ensures.1 c.point.ensures.1

pub publish-requires-clause-end : goal.publish-requires-clause-end
publish-requires-clause-end c =
    ends_there c.requires.holds c.requires.free c.head-last.ensures c.requires.based c.spot_of.ensures c.fill.ensures.1 c.fill-2.ensures.1 c.fill-3.ensures.1 c.point.ensures.1

pub returns : goal.returns
returns c =
    rw c.go_to.ensures (batch_ran c.requires.holds c.requires.free c.head-last.ensures c.requires.based c.spot_of.ensures c.fill.ensures.1 c.fill-2.ensures.1 c.fill-3.ensures.1 c.point.ensures.1 c.publish.ensures.1)
