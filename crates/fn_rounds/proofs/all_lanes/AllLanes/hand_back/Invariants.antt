use Rattle.std.proofs.Common.{◌≡◌, ◌+◌, ◌≤◌, All, false, length}
use Rattle.std.specs.Vec.{vec_capacity}
use Rattle.fn_rounds.specs.Lanes.{has_left}
use Rattle.fn_rounds.specs.Rounds.{AreHandedBack, AreAllMade}
use Rattle.fn_rounds.proofs.all_lanes.AllLanes.hand_back.Given as goal

abbrev pub invariant-loop-lane : goal.invariant-loop-lane
invariant-loop-lane l = record {
  back : AreHandedBack l.yielded l.dones.items;
  made : AreAllMade l.yielded l.dones.items;
  none : All (λ lane. has_left lane ≡ false) l.lane-iterator.rest.items;
  room : length l.dones.items + length l.lane-iterator.rest.items ≤ vec_capacity l.dones;
}
