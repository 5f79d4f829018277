use Rattle.std.proofs.Common.{◌≡◌, ◌+◌, ◌++◌, All, length, take, drop}
use Rattle.quota_pool.specs.Rooms.{HasPlaceFor, HaveSizes, contents, handed}
use Rattle.quota_pool.proofs.rooms.hand.Given as goal

abbrev pub invariant-loop-at : goal.invariant-loop-at
invariant-loop-at l = record {
  at : l.at-iterator.count + length l.at-iterator.iter.rest.items ≡ length l.rooms;
  given : take l.at-iterator.count (contents l.rooms) ++ handed (drop l.at-iterator.count (contents l.rooms)) l.at-iterator.iter.rest.items ≡ handed (contents l.fn.rooms) l.fn.passes.items;
  sizes : HaveSizes l.fn.rooms l.rooms;
  place : All (HasPlaceFor 1) (drop l.at-iterator.count l.rooms);
}
