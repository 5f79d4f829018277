use Rattle.std.proofs.Common.{◌≡◌, ◌+◌, ◌++◌, Some, length, map, take}
use Rattle.std.specs.Prelude.{box_value}
use Rattle.funnel_c.specs.Slots.{callers_in}
use Rattle.funnel_c.proofs.opening.fill.Given as goal

-- the slots so far have callers, and there is one left for each other slot
abbrev pub invariant-loop-at : goal.invariant-loop-at
invariant-loop-at l = record {
  so_far : callers_in (take l.at l.slots) ++ map Some (map box_value l.left.rest.items) ≡ map Some (map box_value l.fn.callers.items);
  one_each : l.at + length l.left.rest.items ≡ length l.slots;
}
