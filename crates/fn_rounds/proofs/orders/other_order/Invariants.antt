use Rattle.std.proofs.Common.{◌≡◌, drop}
use Rattle.fn_rounds.specs.Script.{other_order}
use Rattle.fn_rounds.proofs.orders.other_order.Given as goal

abbrev pub invariant-loop-line : goal.invariant-loop-line
invariant-loop-line l = other_order l.line-items ≡ other_order (drop l.line-index l.line-items)
