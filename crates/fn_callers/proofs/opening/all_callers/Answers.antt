use Rattle.std.proofs.Common.{ap, ◌∙◌}
use Rattle.std.specs.Arc.{arc_value}
use Rattle.fn_table.specs.Seen.{IsOf, TableView}
use Rattle.fn_table.specs.Claims.{Rests}
use Rattle.fn_callers.specs.Callers.{at_rest}
use Rattle.fn_callers.proofs.Listed.{all_tail, one_more}
use Rattle.fn_callers.proofs.opening.all_callers.Goals as goal

pub loop-pass-preserved : goal.loop-pass-preserved
loop-pass-preserved c =
    let i = c.loop-pass.invariant in
    let s = c.in-Some.ensures.steps.0 in
    let t = arc_value c.args.table in
    record {
      table = i.table;
      together = all_tail (IsOf t) _ _ _ i.together s;
      rests = all_tail Rests _ _ _ i.rests s;
      so_far = one_more (at_rest t) c.args.passes.items _ _ _ _ c.in-Some.pass c.new.result i.so_far s (c.new.ensures ∙ ap (λ (v : TableView). at_rest v c.in-Some.pass) c.in_ok-share.ensures) c.in_ok-push.ensures.items;
    }
