use Rattle.std.proofs.Common.{◌≡◌, ℕ, ◌+◌, ◌%◌, ◌<◌, ◌*◌, ◌∷◌, [], ap, sym, ◌∙◌, subst, refl, arith}
use Rattle.std.specs.Prelude.{Some}
use Rattle.running.specs.Running.{log_of}
use Rattle.tq_cells.specs.declared.entry.Start.{Start}
use Rattle.tq_cells.specs.declared.entry.Entry.TheVariants.{Take, Free}
use Rattle.tq_cells.specs.Laws.{puts}
use Rattle.tq_cells.specs.Rule.{Seated, Told, IsSeat}
use Rattle.tq_cells.specs.Seen.{CellsView}
use Rattle.tq_cells.specs.Seats.{shown}
use Rattle.tq_cells.proofs.Steps.{taking_allowed, freeing_allowed}
use Rattle.tq_cells.proofs.Quarters.{quarter, quarter_next}
use Rattle.tq_cells.proofs.Tells.{told_seat, told_entered, missed_of, told_start, told_both, tables, cell_there, capacity_there, same_slot}
use Rattle.tq_cells.proofs.moving.remove.Goals as goal

pub compare_exchange-found-requires : goal.compare_exchange-found-requires
compare_exchange-found-requires g c =
    let me = c.seat.inside.place.me in (
      tables _ _ me.0 _ _ _ c.seat.view_is c.cells.view_is c.requires.together.0,
      subst (λ (x : CellsView). c.cell_of-cell.result < x.table.words) (sym c.cells.view_is) c.cell_of-cell.ensures.inside,
      taking_allowed _ _ _ c.seat.inside.number me c.args.ticket c.cell_of-cell.result (cell_there _ _ me.0 _ c.args.cells.now _ _ c.seat.view_is c.requires.together.1 c.cell_of-cell.ensures.exact) c.seat.invariant.0,
    )

pub returns-then-found-full-clause-outcome : goal.returns-then-found-full-clause-outcome
returns-then-found-full-clause-outcome g c =
    let e = c.compare_exchange-found.ensures in
    missed_of _ _ _ _ (told_entered _ _ c.seat.inside.number c.seat.inside.place.me.0 _ _ _ c.seat.view_is c.seat.invariant.0 e.0 (e.2.1 c.if-found-full.true).0)

pub exchange-item-requires : goal.exchange-item-requires
exchange-item-requires g c =
    let e = c.compare_exchange-found.ensures in
    let took = e.2.0 c.if-found-full.false in (
      e.0 ∙ tables _ _ c.seat.inside.place.me.0 _ _ _ c.seat.view_is c.cells.view_is c.requires.together.0,
      (Some took.0, took.2 ∙ ap (λ l. (c.cell_of-cell.result, Some took.0) ∷ l) (sym (ap (λ l. Rattle.atomic_table.specs.Table.rest l) took.2))),
    )

pub store-requires : goal.store-requires
store-requires g c =
    let was = c.seat.inside.place.me in
    let took_me = c.compare_exchange-found.new.seat.me in
    let k : ℕ = c.seat.inside.number in
    let t : ℕ = c.args.ticket in
    let cell : ℕ = c.cell_of-cell.result in
    let cap : ℕ = c.cells.inside.capacity in
    let e = c.compare_exchange-found.ensures in
    let told = subst (λ (q : ℕ). Told (Take q) was.0 took_me.0) (quarter t 2 (4 * t + 2) (omega arith) refl) (e.2.0 c.if-found-full.false).1 in
    let x = c.exchange-item.ensures in
    let seat = told_seat k was.0 took_me.0 (Take t) c.seat.invariant.0 told in
    let start = told_start was.0 took_me.0 (Take t) told in
    let begins : c.exchange-item.new.seat.me.0.start ≡ was.0.start = ap (λ (m : Seated g.row.T.Denot). m.0.start) x.3 ∙ start in
    let at : cell ≡ t % was.0.start.capacity = cell_there _ _ was.0 _ c.args.cells.now _ _ c.seat.view_is c.requires.together.1 c.cell_of-cell.ensures.exact in
    let wide : was.0.start.capacity ≡ cap = capacity_there _ _ was.0 _ _ _ _ c.seat.view_is c.cells.view_is c.requires.together.1 c.cells.invariant.2 in
    let next : c.from.result ≡ c.exchange-item.new.seat.me.0.start.capacity = c.from.ensures ∙ sym (ap (λ (b : Start). b.capacity) begins ∙ wide) in (
      x.0 ∙ (e.0 ∙ tables _ _ was.0 _ _ _ c.seat.view_is c.cells.view_is c.requires.together.0),
      subst (λ (v : CellsView). cell < v.table.words) (sym c.cells.view_is) c.cell_of-cell.ensures.inside,
      freeing_allowed _ _ _ k c.exchange-item.new.seat.me t cell (at ∙ ap (λ (b : Start). t % b.capacity) (sym begins)) _ _ (ap (λ n. 4 * (t + n)) next) (ap (λ (m : Seated g.row.T.Denot). m.1) x.3) (subst (IsSeat k _) (sym (ap (λ (m : Seated g.row.T.Denot). m.0) x.3)) seat),
    )

pub returns-clause-outcome : goal.returns-clause-outcome
returns-clause-outcome g c =
    let was = c.seat.inside.place.me in
    let took_me = c.compare_exchange-found.new.seat.me in
    let k : ℕ = c.seat.inside.number in
    let t : ℕ = c.args.ticket in
    let e = c.compare_exchange-found.ensures in
    let took = e.2.0 c.if-found-full.false in
    let told = subst (λ (q : ℕ). Told (Take q) was.0 took_me.0) (quarter t 2 (4 * t + 2) (omega arith) refl) took.1 in
    let x = c.exchange-item.ensures in
    let s = c.store.ensures in
    let slots = c.cells.invariant.1 ∙ sym c.from.ensures in
    let told' = subst (λ (q : ℕ). Told (Free q) c.exchange-item.new.seat.me.0 c.store.new.seat.me.0) (quarter_next t c.from.result _ slots) s.2.0 in
    let both = told_both _ c.compare_exchange-found.new.seat.table_id c.store.new.seat.table_id k was.0 took_me.0 c.exchange-item.new.seat.me.0 c.store.new.seat.me.0 _ (Take t) (Free t) c.seat.view_is c.seat.invariant.0 e.0 (s.0 ∙ x.0) refl told (ap (λ (m : Seated g.row.T.Denot). m.0) x.3) told' in
    let item = same_slot _ _ _ _ _ _ (sym took.2 ∙ x.2) in
    let both_items : Some took.0 ≡ Some c.unwrap.result = item ∙ c.unwrap.ensures in
    let is : took.0 ≡ c.unwrap.result = cc in
    (shown c.compare_exchange-found.new.seat.table_id k took_me.0, both.0, both.1, subst (λ q. puts q (log_of took_me.0.parts) ≡ took.0 ∷ []) (quarter t 2 (4 * t + 2) (omega arith) refl) took.3 ∙ ap (λ y. y ∷ []) is)
