use Rattle.std.proofs.Common.{◌≡◌, All, length}
use Rattle.quota_pool.specs.Rooms.{IsBare}
use Rattle.quota_pool.proofs.rooms.rooms_for.Given as goal

abbrev pub invariant-loop : goal.invariant-loop
invariant-loop l = record {
  count : length l.rooms.items ≡ l.counter;
  bare : All (IsBare l.places) l.rooms.items;
}
