use Rattle.std.proofs.Common.{◌≡◌, ◌-◌}
use Rattle.fn_table.specs.Seats.{IsDealer}
use Rattle.fn_table.proofs.opening.glance_all.Given as goal

abbrev pub invariant-loop-taken : goal.invariant-loop-taken
invariant-loop-taken l = record {
  dealer : IsDealer l.words.table_id l.fn.seat.me.0.start 1 (l.taken - 1) l.seat;
  start : l.seat.me.0.start ≡ l.fn.seat.me.0.start;
}
