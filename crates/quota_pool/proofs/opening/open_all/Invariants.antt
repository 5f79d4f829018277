use Rattle.std.proofs.Common.{◌≡◌, ◌+◌, ◌-◌, ℕ, [], All, Some, length, map, slice_get, get_or}
use Rattle.running.specs.Running.{upto}
use Rattle.fn_table.specs.Seen.{TableView}
use Rattle.quota_pool.specs.Opened.{fresh_hand, IsOpen}
use Rattle.quota_pool.specs.Rooms.{HasPlaceFor, contents}
use Rattle.quota_pool.proofs.opening.open_all.Given as goal

abbrev pub invariant-loop-at : goal.invariant-loop-at
invariant-loop-at l = record {
  count : length l.funnels.items ≡ l.at;
  passes : All (λ funnel. funnel.start.shape.passes ≡ l.workers) l.funnels.items;
  each : (t : ℕ) (table : TableView) → slice_get l.funnels.items t ≡ Some table → IsOpen l.workers (get_or l.openings t 0) (get_or l.caps t 0) (get_or l.plans t []) table;
  hands : contents l.hands.items ≡ map (fresh_hand l.funnels.items) (upto l.workers);
  place : All (HasPlaceFor (length l.openings - l.at)) l.hands.items;
}
