use Rattle.std.proofs.Common.{◌≡◌, ◌∙◌, ap, ℕ}
use Rattle.fn_layout.specs.declared.shape.Shape.{Shape}
use Rattle.fn_core.specs.declared.Start.{Start}
use Rattle.fn_table.specs.declared.spots.Spots.{Spots}
use Rattle.fn_table.specs.Spots.{spots_of}
use Rattle.atomic_table.specs.Table.{Me}
use Rattle.running.proofs.Keeps.{hands}
use Rattle.fn_table.specs.Funnel.{funnel}
use Rattle.fn_table.specs.Seats.{Known, shown}
use Rattle.fn_table.proofs.Deals.{dealt, given_seat}
use Rattle.fn_table.proofs.dealing.deal.Goals as goal

-- the words of a pass are those of its start's shape
mine : (shape : Shape) (start : Start) (n : ℕ) (spots : Spots) → shape ≡ start.shape → spots ≡ spots_of shape n → spots ≡ spots_of start.shape n
mine shape start n spots same is = is ∙ ap (λ (s : Shape). spots_of s n) same

pub split_seat-requires : goal.split_seat-requires
split_seat-requires c = (c.requires.dealer.table, c.requires.words, hands funnel _ _ _)

pub returns-clause-dealer : goal.returns-clause-dealer
returns-clause-dealer c =
    let s = c.split_seat.ensures in
    record { table = s.0 ∙ c.requires.dealer.table; knows = s.2 ∙ dealt _ _ _ _ c.requires.inside.1 c.requires.dealer.knows; opens = c.requires.dealer.opens }

pub invariant_of-result : goal.invariant_of-result
invariant_of-result c = (given_seat c.split_seat.result.table_id c.args.seat.now.me.0.start _ _ _ _ _ c.requires.inside.1 c.requires.dealer.opens c.requires.dealer.knows c.split_seat.ensures.4 (mine c.args.shape c.args.seat.now.me.0.start c.args.number _ c.requires.shape c.all_spots.ensures)).1

pub returns-clause-pass : goal.returns-clause-pass
returns-clause-pass c =
    let s = c.split_seat.ensures in
    let given = (given_seat c.split_seat.result.table_id c.args.seat.now.me.0.start _ _ _ _ _ c.requires.inside.1 c.requires.dealer.opens c.requires.dealer.knows s.4 (mine c.args.shape c.args.seat.now.me.0.start c.args.number _ c.requires.shape c.all_spots.ensures)).0 in
    λ i. shown ((s.3 ∙ c.requires.dealer.table) i) c.args.number (ap (λ (me : Me (Unit {0}) Known). me.0) given i)
