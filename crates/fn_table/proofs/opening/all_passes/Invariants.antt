use Rattle.std.proofs.Common.{◌≡◌, ◌-◌, map}
use Rattle.running.specs.Running.{numbers_from}
use Rattle.fn_table.specs.Seen.{fresh}
use Rattle.fn_table.specs.Seats.{IsDealer}
use Rattle.fn_table.proofs.opening.all_passes.Given as goal

abbrev pub invariant-loop-number : goal.invariant-loop-number
invariant-loop-number l = record {
  dealer : IsDealer l.words.table_id l.fn.seat.me.0.start l.number (l.fn.seat.me.0.start.shape.passes - 1) l.seat;
  start : l.seat.me.0.start ≡ l.fn.seat.me.0.start;
  passes : l.all.items ≡ map (fresh (record { table = l.words.table_id; start = l.fn.seat.me.0.start })) (numbers_from 1 (l.number - 1));
}
