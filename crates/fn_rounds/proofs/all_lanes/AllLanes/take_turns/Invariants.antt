use Rattle.std.proofs.Common.{◌≡◌, take, drop}
use Rattle.fn_rounds.specs.Rounds.{HaveTurned}
use Rattle.fn_rounds.proofs.all_lanes.AllLanes.take_turns.Given as goal

abbrev pub invariant-loop-lane : goal.invariant-loop-lane
invariant-loop-lane l = record {
  turned : HaveTurned (take l.lane-index l.initial.lane-items) (take l.lane-index l.lane-items);
  others : drop l.lane-index l.lane-items ≡ drop l.lane-index l.initial.lane-items;
}
