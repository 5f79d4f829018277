use Rattle.std.proofs.Common.{◌≡◌, ◌+◌, ◌≤◌, ◌++◌, All, Some, length}
use Rattle.quota_pool.specs.Opened.{seated}
use Rattle.quota_pool.specs.Rooms.{Suits, contents}
use Rattle.quota_pool.proofs.opening.desks_of.Given as goal

abbrev pub invariant-loop-worker : goal.invariant-loop-worker
invariant-loop-worker l = record {
  desks : l.desks.items ++ seated l.worker-iterator.count (contents l.worker-iterator.iter.rest.items) ≡ seated 0 (contents l.fn.hands.items);
  few : l.worker-iterator.count + length l.worker-iterator.iter.rest.items ≤ 64;
  first : l.worker-iterator.count ≡ 0 → l.closing ≡ Some l.fn.closing;
  suits : All (λ hand. Suits l.fn.closing hand.items) l.worker-iterator.iter.rest.items;
}
