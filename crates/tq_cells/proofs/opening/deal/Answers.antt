use Rattle.std.proofs.Common.{◌∙◌, ap}
use Rattle.tq_cells.specs.Rule.{Seated}
use Rattle.tq_cells.specs.Seats.{shown}
use Rattle.tq_cells.proofs.Gathered.{rule_hands}
use Rattle.tq_cells.proofs.Deals.{dealt, given_seat}
use Rattle.tq_cells.proofs.opening.deal.Goals as goal

pub split_seat-requires : goal.split_seat-requires
split_seat-requires g c = (c.requires.dealer.table, c.requires.words, rule_hands _ _ _)

pub returns-clause-dealer : goal.returns-clause-dealer
returns-clause-dealer g c =
    let s = c.split_seat.ensures in
    record { table = s.0 ∙ c.requires.dealer.table; knows = s.2 ∙ dealt _ _ _ c.requires.inside.1 c.requires.dealer.knows; some_cell = c.requires.dealer.some_cell }

pub invariant_of-result : goal.invariant_of-result
invariant_of-result g c = (given_seat c.args.first.now.me.0.start _ _ _ c.requires.inside.1 c.requires.dealer.some_cell c.requires.dealer.knows c.split_seat.ensures.4).1

pub returns-clause-seat : goal.returns-clause-seat
returns-clause-seat g c =
    let s = c.split_seat.ensures in
    let given = (given_seat c.args.first.now.me.0.start _ _ _ c.requires.inside.1 c.requires.dealer.some_cell c.requires.dealer.knows s.4).0 in
    λ i. shown ((s.3 ∙ c.requires.dealer.table) i) c.args.number (ap (λ (me : Seated g.row.T.Denot). me.0) given i)
