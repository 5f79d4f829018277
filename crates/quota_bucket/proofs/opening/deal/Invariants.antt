use Rattle.std.proofs.Common.{◌≡◌, ◌++◌, length, map}
use Rattle.std.specs.Prelude.{zip}
use Rattle.std.specs.Vec.Iter.{into_iter_items, into_iter_len}
use Rattle.quota_bucket.specs.Places.{desk_of}
use Rattle.quota_bucket.proofs.opening.deal.Given as goal

-- the desks so far, and those of the seats and the passes that are left, are all of them
abbrev pub invariant-loop-seat : goal.invariant-loop-seat
invariant-loop-seat l = record {
  so_far : l.desks.items ++ map desk_of (zip (into_iter_items l.seat-iterator.a) (into_iter_items l.seat-iterator.b)) ≡ map desk_of (zip l.fn.seats.items l.fn.passes.items);
  seats : into_iter_len l.seat-iterator.a ≡ length (into_iter_items l.seat-iterator.a);
  passes : into_iter_len l.seat-iterator.b ≡ length (into_iter_items l.seat-iterator.b);
}
