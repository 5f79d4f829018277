use Rattle.std.proofs.Common.{◌≡◌, All}
use Rattle.tq_cells.specs.Seats.{IsGathering}
use Rattle.tq_cells.proofs.closing.gather.Given as goal

abbrev pub invariant-loop-seat : goal.invariant-loop-seat
invariant-loop-seat g l = record {
  gathering : IsGathering l.words.table_id l.words.key l.yielded l.first;
  tables : All (λ p. p.table ≡ l.words.table_id) l.seat-iterator.rest.items;
}
