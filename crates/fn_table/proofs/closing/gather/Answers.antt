use Rattle.std.proofs.Common.{◌≡◌, All, ap, subst, ◌∙◌}
use Rattle.std.proofs.lemmas.List.Elements.{All-head, All-rest}
use Rattle.running.proofs.Keeps.{meets}
use Rattle.fn_table.specs.Funnel.{funnel}
use Rattle.fn_table.proofs.Gathers.{sits, gathering_has, gathers}
use Rattle.fn_table.proofs.closing.gather.Goals as goal

pub load_new_seat-seat-requires : goal.load_new_seat-seat-requires
load_new_seat-seat-requires c = (c.requires.words, sits _ _ _)

pub join_seat-requires : goal.join_seat-requires
join_seat-requires c =
    let i = c.loop-pass.invariant in
    let here = All-head (λ p. p.table ≡ c.args.words.now.table_id) _ _ (subst (All (λ p. p.table ≡ c.args.words.now.table_id)) c.in-Some.ensures.steps.0 i.tables) in
    (i.gathering.table, ap (λ p. p.table) (c.caller.view_is ∙ c.pass.view_is) ∙ here, c.caller.invariant.1, c.requires.words, meets funnel _ _ _ _ _ _ (gathering_has _ _ _ _ i.gathering))

pub loop-pass-preserved : goal.loop-pass-preserved
loop-pass-preserved c =
    let i = c.loop-pass.invariant in
    let j = c.join_seat.ensures in
    record {
      gathering = gathers _ _ _ _ _ _ _ _ _ i.gathering (c.caller.view_is ∙ c.pass.view_is) c.caller.invariant.0 j.0 j.2;
      tables = All-rest (λ p. p.table ≡ c.args.words.now.table_id) _ _ _ c.in-Some.ensures.steps.0 i.tables;
    }
