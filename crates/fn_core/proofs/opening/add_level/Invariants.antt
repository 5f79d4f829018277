use Rattle.std.proofs.Common.{◌≡◌, List, ◌++◌}
use Rattle.fn_rows.specs.Aggregator.{Aggregator}
use Rattle.fn_core.specs.Opening.{AreFirst}
use Rattle.fn_core.proofs.opening.add_level.Given as goal

abbrev pub invariant-loop-index : goal.invariant-loop-index
invariant-loop-index l = (more : List Aggregator) × (l.all.items ≡ l.fn.all.items ++ more) × AreFirst l.shape l.level l.index more
