use Rattle.std.proofs.Common.{List, All, ap, ◌∙◌, map, subst}
use Rattle.fn_table.specs.Seen.{PassView, IsWhole}
use Rattle.fn_callers.specs.Callers.{at_rest}
use Rattle.fn_callers.proofs.opening.open.Goals as goal

pub returns-in-Ok-share-clause-callers : goal.returns-in-Ok-share-clause-callers
returns-in-Ok-share-clause-callers c =
    let t = c.in-Ok.opened.0 in
    record {
      shape = c.shape_for-shape.result;
      shape_is = c.shape_for-shape.ensures;
      opened = t;
      start = c.in-Ok.ensures.table;
      fresh = c.in-Ok-share.ensures ∙ ap (map (at_rest t)) c.in-Ok.ensures.passes.fresh;
      whole = subst (λ (l : List PassView). All IsWhole l) c.in-Ok.ensures.passes.fresh c.in-Ok.ensures.passes.idle;
    }
