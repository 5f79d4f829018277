use Rattle.std.proofs.Common.{All, ◌+◌, ◌≤◌, length}
use Rattle.std.specs.Vec.{vec_capacity}
use Rattle.fn_table.specs.Claims.{Rests}
use Rattle.fn_rounds.specs.Lanes.{MayMakeAll}
use Rattle.fn_rounds.specs.Rounds.{AreStarted}
use Rattle.fn_rounds.proofs.all_lanes.AllLanes.new.Given as goal

abbrev pub invariant-loop-lane : goal.invariant-loop-lane
invariant-loop-lane l = record {
  started : AreStarted l.yielded l.running.items;
  idle : All (λ lane. Rests lane.pass) l.lane-iterator.rest.items;
  may : All (λ lane. MayMakeAll lane.pass lane.orders) l.lane-iterator.rest.items;
  room : length l.running.items + length l.lane-iterator.rest.items ≤ vec_capacity l.dones;
}
