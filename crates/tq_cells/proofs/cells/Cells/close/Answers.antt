use Rattle.std.proofs.Common.{◌≡◌, arith, sym, ap, ◌∙◌}
use Rattle.running.specs.Running.{upto}
use Rattle.tq_cells.specs.Seen.{CellsView}
use Rattle.tq_cells.proofs.Gathered.{rule_looks}
use Rattle.tq_cells.proofs.Deals.{gathering_has, closed_has}
use Rattle.tq_cells.proofs.cells.Cells.close.Goals as goal

pub load-requires : goal.load-requires
load-requires g c =
    let i = c.self.invariant in
    (c.gather-place.ensures.table, omega (arith, i.0, i.3), rule_looks _ _ _ _ _ (gathering_has _ _ _ _ c.gather-place.ensures))

pub returns-clause-seats : goal.returns-clause-seats
returns-clause-seats g c =
    let key : c.args.self.start.seats ≡ c.self.inside.table.shared.key.seats = ap (λ (x : CellsView). x.start.seats) (sym c.self.view_is) in
    closed_has _ _ _ _ _ c.gather-place.ensures c.load.ensures.2.0 (c.requires.all ∙ ap upto key)
