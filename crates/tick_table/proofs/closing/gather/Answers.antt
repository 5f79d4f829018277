use Rattle.std.proofs.Common.{◌≡◌, ap, ◌∙◌}
use Rattle.std.proofs.lemmas.List.Elements.{All-rest}
use Rattle.running.proofs.Keeps.{meets}
use Rattle.running.proofs.Lists.{all_head}
use Rattle.tick_table.specs.Ticks.{ticks}
use Rattle.tick_table.proofs.Seats.{sits, gathering_has, gathers}
use Rattle.tick_table.proofs.closing.gather.Goals as goal

pub load_new_seat-first-requires : goal.load_new_seat-first-requires
load_new_seat-first-requires c = (c.requires.words, sits _ _ _)

pub join_seat-requires : goal.join_seat-requires
join_seat-requires c =
    let i = c.loop-seat.invariant in
    let here = all_head (λ p. p.table ≡ c.args.words.now.table_id) _ _ _ i.tables c.in-Some.ensures.steps.0 in
    (i.gathering.table, ap (λ p. p.table) c.seat.view_is ∙ here, c.seat.invariant.1, c.requires.words, meets ticks _ _ _ _ _ _ (gathering_has _ _ _ _ i.gathering))

pub loop-seat-preserved : goal.loop-seat-preserved
loop-seat-preserved c =
    let i = c.loop-seat.invariant in
    let j = c.join_seat.ensures in
    record {
      gathering = gathers _ _ _ _ _ _ _ _ _ i.gathering c.seat.view_is c.seat.invariant.0 j.0 j.2;
      tables = All-rest (λ p. p.table ≡ c.args.words.now.table_id) _ _ _ c.in-Some.ensures.steps.0 i.tables;
    }
