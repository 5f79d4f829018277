use Rattle.std.proofs.Common.{◌≡◌, ◌++◌, map}
use Rattle.std.specs.Prelude.{box_value}
use Rattle.funnel_c.proofs.opening.on_heap.Given as goal

abbrev pub invariant-loop-caller : goal.invariant-loop-caller
invariant-loop-caller l = map box_value l.boxes.items ++ l.caller-iterator.rest.items ≡ l.fn.callers.items
