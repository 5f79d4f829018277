use Rattle.std.proofs.Common.{◌≡◌, List, ◌++◌}
use Rattle.fn_rows.specs.Aggregator.{Aggregator}
use Rattle.fn_core.specs.Opening.{AreBelow}
use Rattle.fn_core.proofs.opening.add_kind.Given as goal

abbrev pub invariant-loop-level : goal.invariant-loop-level
invariant-loop-level l = (more : List Aggregator) × (l.all.items ≡ l.fn.all.items ++ more) × AreBelow l.shape l.level more
