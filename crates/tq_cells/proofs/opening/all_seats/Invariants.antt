use Rattle.std.proofs.Common.{◌≡◌, ◌-◌, map}
use Rattle.running.specs.Running.{numbers_from}
use Rattle.tq_cells.specs.Seen.{fresh}
use Rattle.tq_cells.specs.Seats.{IsDealer}
use Rattle.tq_cells.proofs.opening.all_seats.Given as goal

abbrev pub invariant-loop-number : goal.invariant-loop-number
invariant-loop-number g l = record {
  dealer : IsDealer l.words.table_id l.fn.first.me.0.start l.number l.first;
  start : l.first.me.0.start ≡ l.fn.first.me.0.start;
  seats : l.all.items ≡ map (fresh (record { table = l.words.table_id; start = l.fn.first.me.0.start })) (numbers_from 1 (l.number - 1));
}
