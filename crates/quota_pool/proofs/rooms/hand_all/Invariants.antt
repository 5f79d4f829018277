use Rattle.std.proofs.Common.{◌≡◌, All, length}
use Rattle.quota_pool.specs.Rooms.{HasPlaceFor, contents, handed, rooms_after}
use Rattle.quota_pool.proofs.rooms.hand_all.Given as goal

abbrev pub invariant-loop-desk : goal.invariant-loop-desk
invariant-loop-desk l = record {
  one_each : All (λ desk. length desk.passes ≡ length l.rooms.items) l.desk-iterator.rest.items;
  place : All (HasPlaceFor (length l.desk-iterator.rest.items)) l.rooms.items;
  given : rooms_after (contents l.rooms.items) l.desk-iterator.rest.items ≡ rooms_after (handed (contents l.fn.rooms.items) l.fn.first.items) l.fn.others.items;
}
