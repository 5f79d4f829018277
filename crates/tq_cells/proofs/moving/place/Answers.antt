use Rattle.std.proofs.Common.{◌≡◌, ℕ, ◌+◌, ◌%◌, ◌<◌, ◌*◌, ap, sym, ◌∙◌, subst, refl, arith}
use Rattle.tq_cells.specs.declared.entry.Start.{Start}
use Rattle.tq_cells.specs.declared.entry.Entry.TheVariants.{Hold, Put}
use Rattle.tq_cells.specs.Rule.{Seated, Told, IsSeat}
use Rattle.tq_cells.specs.Seen.{CellsView}
use Rattle.tq_cells.specs.Seats.{shown}
use Rattle.tq_cells.proofs.Steps.{holding_allowed, giving_allowed}
use Rattle.tq_cells.proofs.Quarters.{quarter, quarter_whole}
use Rattle.tq_cells.proofs.Tells.{told_seat, told_entered, missed_of, told_start, tables, cell_there, same_item, told_both}
use Rattle.tq_cells.proofs.moving.place.Goals as goal

pub compare_exchange-found-requires : goal.compare_exchange-found-requires
compare_exchange-found-requires g c =
    let me = c.seat.inside.place.me in (
      tables _ _ me.0 _ _ _ c.seat.view_is c.cells.view_is c.requires.together.0,
      subst (λ (x : CellsView). c.cell_of-cell.result < x.table.words) (sym c.cells.view_is) c.cell_of-cell.ensures.inside,
      holding_allowed _ _ _ c.seat.inside.number me c.args.ticket c.cell_of-cell.result (cell_there _ _ me.0 _ c.args.cells.now _ _ c.seat.view_is c.requires.together.1 c.cell_of-cell.ensures.exact) c.seat.invariant.0,
    )

pub returns-then-found-free-clause-outcome : goal.returns-then-found-free-clause-outcome
returns-then-found-free-clause-outcome g c =
    let e = c.compare_exchange-found.ensures in
    (refl, missed_of _ _ _ _ (told_entered _ _ c.seat.inside.number c.seat.inside.place.me.0 _ _ _ c.seat.view_is c.seat.invariant.0 e.0 (e.2.1 c.if-found-free.true).0))

pub store-requires : goal.store-requires
store-requires g c =
    let was = c.seat.inside.place.me in
    let k : ℕ = c.seat.inside.number in
    let t : ℕ = c.args.ticket in
    let cell : ℕ = c.cell_of-cell.result in
    let e = c.compare_exchange-found.ensures in
    let hold = (e.2.0 c.if-found-free.false).0 in
    let told = subst (λ (q : ℕ). Told (Hold q) was.0 c.compare_exchange-found.new.seat.me.0) (quarter_whole t) hold in
    let now = c.exchange.ensures.3 in
    let seat = told_seat k was.0 c.compare_exchange-found.new.seat.me.0 (Hold t) c.seat.invariant.0 told in
    let start = told_start was.0 c.compare_exchange-found.new.seat.me.0 (Hold t) told in
    let at : cell ≡ t % was.0.start.capacity = cell_there _ _ was.0 _ c.args.cells.now _ _ c.seat.view_is c.requires.together.1 c.cell_of-cell.ensures.exact in (
      c.exchange.ensures.0 ∙ (e.0 ∙ tables _ _ was.0 _ _ _ c.seat.view_is c.cells.view_is c.requires.together.0),
      subst (λ (x : CellsView). cell < x.table.words) (sym c.cells.view_is) c.cell_of-cell.ensures.inside,
      giving_allowed _ _ _ k c.exchange.new.seat.me t cell (at ∙ ap (λ (b : Start). t % b.capacity) (sym start ∙ sym (ap (λ (m : Seated g.row.T.Denot). m.0.start) now))) c.args.item _ (ap (λ (m : Seated g.row.T.Denot). m.1) now) (subst (IsSeat k _) (sym (ap (λ (m : Seated g.row.T.Denot). m.0) now)) seat),
    )

pub returns-clause-outcome : goal.returns-clause-outcome
returns-clause-outcome g c =
    let was = c.seat.inside.place.me in
    let held_me = c.compare_exchange-found.new.seat.me in
    let k : ℕ = c.seat.inside.number in
    let t : ℕ = c.args.ticket in
    let e = c.compare_exchange-found.ensures in
    let told = subst (λ (q : ℕ). Told (Hold q) was.0 held_me.0) (quarter_whole t) (e.2.0 c.if-found-free.false).0 in
    let x = c.exchange.ensures in
    let s = c.store.ensures in
    let item : s.2.0 ≡ c.args.item = same_item _ _ _ _ _ _ (sym s.2.1 ∙ ap (λ (m : Seated g.row.T.Denot). m.1) x.3) in
    let told' = subst (λ (z : ℕ × _). Told (Put z.0 z.1) c.exchange.new.seat.me.0 c.store.new.seat.me.0) (λ i. (quarter t 2 (4 * t + 2) (omega arith) refl i, item i)) s.2.2 in
    let both = told_both _ c.compare_exchange-found.new.seat.table_id c.store.new.seat.table_id k was.0 held_me.0 c.exchange.new.seat.me.0 c.store.new.seat.me.0 _ (Hold t) (Put t c.args.item) c.seat.view_is c.seat.invariant.0 e.0 (s.0 ∙ x.0) refl told (ap (λ (m : Seated g.row.T.Denot). m.0) x.3) told' in
    (shown c.compare_exchange-found.new.seat.table_id k held_me.0, both.0, both.1)
