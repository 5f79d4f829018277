use Rattle.std.proofs.Common.{◌≡◌, ◌+◌, ◌≤◌, ◌++◌, List, length}
use Rattle.std.specs.Vec.{vec_capacity}
use Rattle.std.specs.Vec.Iter.{into_iter_items, into_iter_len}
use Rattle.fn_core.specs.Calls.{CoreLog}
use Rattle.quota_pool.specs.Closed.{MayCloseAll, AreClosedFrom}
use Rattle.quota_pool.specs.Rooms.{contents}
use Rattle.quota_pool.proofs.closing.close_all.Given as goal

-- with the books of the tables that are left, the books so far are those of all tables
abbrev pub invariant-loop-funnel : goal.invariant-loop-funnel
invariant-loop-funnel l = record {
  closed : (more : List CoreLog) → AreClosedFrom (into_iter_items l.funnel-iterator.a) (contents (into_iter_items l.funnel-iterator.b)) more → AreClosedFrom l.fn.funnels.items (contents l.fn.rooms.items) (l.books.items ++ more);
  ready : MayCloseAll (into_iter_items l.funnel-iterator.a) (contents (into_iter_items l.funnel-iterator.b));
  place : length l.books.items + length (into_iter_items l.funnel-iterator.a) ≤ vec_capacity l.books;
  funnels : into_iter_len l.funnel-iterator.a ≡ length (into_iter_items l.funnel-iterator.a);
  rooms : into_iter_len l.funnel-iterator.b ≡ length (into_iter_items l.funnel-iterator.b);
}
