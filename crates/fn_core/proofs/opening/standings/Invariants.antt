use Rattle.std.proofs.Common.{◌≡◌, map, take}
use Rattle.fn_core.specs.Opening.{resting}
use Rattle.fn_core.proofs.opening.standings.Given as goal

abbrev pub invariant-loop-left : goal.invariant-loop-left
invariant-loop-left l = l.all.items ≡ map resting (take l.left-index l.allowances)
