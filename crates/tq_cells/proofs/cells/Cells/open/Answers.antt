use Rattle.std.proofs.Common.{◌*◌, ◌∙◌, ap, arith}
use Rattle.tq_cells.specs.declared.entry.Start.{Start}
use Rattle.tq_cells.proofs.Deals.{opens, as_many}
use Rattle.tq_cells.proofs.cells.Cells.open.Goals as goal

pub vacant-requires : goal.vacant-requires
vacant-requires g c = opens (record { capacity = c.args.capacity; seats = c.args.seats }) _ (c.deref.ensures.value ∙ c.in_ok-words.ensures)

pub invariant_of-result : goal.invariant_of-result
invariant_of-result g c =
    let e = c.in_ok-table.ensures in
    (e.0 ∙ as_many (λ k. 4 * k) _ c.args.capacity (c.deref.ensures.value ∙ c.in_ok-words.ensures), e.1, ap (λ (b : Start). b.capacity) e.5, omega (arith, c.requires.capacity), omega (arith, c.requires.capacity))
