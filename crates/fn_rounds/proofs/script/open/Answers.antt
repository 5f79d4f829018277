use Rattle.std.proofs.Common.{◌≡◌, ◌∙◌, ap, sym, length}
use Rattle.std.proofs.lemmas.List.FromFn.{length-map-range_with_len}
use Rattle.running.specs.Running.{upto}
use Rattle.fn_core.specs.declared.Start.{Start}
use Rattle.script_text.specs.Sound.{allowance}
use Rattle.fn_rounds.proofs.Finished.{length_fresh, lines_inside}
use Rattle.fn_rounds.proofs.script.open.Goals as goal

pub open-requires : goal.open-requires
open-requires c = ap length (c.deref.ensures.value ∙ c.in-Ok.ensures.each) ∙ length-map-range_with_len (allowance c.args.script.now.lines) 0 c.args.script.now.shape.passes

pub lanes_for-requires-clause-numbers : goal.lanes_for-requires-clause-numbers
lanes_for-requires-clause-numbers c =
    let t = c.in-Ok-open.table in
    c.in-Ok-open.ensures.passes.all ∙ ap upto (sym (ap length c.in-Ok-open.ensures.passes.fresh ∙ length_fresh t 0 t.start.shape.passes))

pub lanes_for-requires-clause-there : goal.lanes_for-requires-clause-there
lanes_for-requires-clause-there c =
    let t = c.in-Ok-open.table in
    let script = c.args.script.now in
    let passes : t.start.shape.passes ≡ script.shape.passes = ap (λ (s : Start). s.shape.passes) c.in-Ok-open.ensures.table in
    lines_inside script.shape.passes script.lines c.requires.passes (length c.in-Ok-open.passes.items) (ap length c.in-Ok-open.ensures.passes.fresh ∙ length_fresh t 0 t.start.shape.passes ∙ passes) c.deref-in-Ok-open.result.now (c.deref-in-Ok-open.ensures.value ∙ c.lines.view_is)
