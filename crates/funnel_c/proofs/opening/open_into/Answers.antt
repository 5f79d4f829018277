use Rattle.std.proofs.Common.{sym, ◌∙◌}
use Rattle.std.proofs.lemmas.List.{length-map}
use Rattle.std.specs.Prelude.{box_value}
use Rattle.funnel_c.proofs.Opened.{one_each}
use Rattle.funnel_c.proofs.opening.open_into.Goals as goal

pub fill-requires : goal.fill-requires
fill-requires c =
    sym c.if-allowances-slots.false ∙ sym (one_each c.args.opening c.args.cap c.args.allowances.now _ c.in-Ok.ensures.callers) ∙ length-map c.in-Ok.callers.items box_value
