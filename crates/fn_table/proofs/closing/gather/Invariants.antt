use Rattle.std.proofs.Common.{◌≡◌, All}
use Rattle.fn_table.specs.Seats.{IsGathering}
use Rattle.fn_table.proofs.closing.gather.Given as goal

abbrev pub invariant-loop-pass : goal.invariant-loop-pass
invariant-loop-pass l = record {
  gathering : IsGathering l.words.table_id l.words.key l.yielded l.seat;
  tables : All (λ p. p.table ≡ l.words.table_id) l.pass-iterator.rest.items;
}
