use Rattle.std.proofs.Common.{◌∙◌, ap, length}
use Rattle.std.proofs.lemmas.List.FromFn.{length-map-range_with_len}
use Rattle.script_text.specs.Sound.{allowance}
use Rattle.script_run.proofs.Several.{seated-first}
use Rattle.script_run.proofs.trial.open.Goals as goal

pub open-requires : goal.open-requires
open-requires c =
    ap length (c.deref.ensures.value ∙ c.in-Ok.ensures.each) ∙ length-map-range_with_len (allowance c.args.script.now.lines) 0 c.args.script.now.shape.passes

pub returns-in-Ok-open-clause-callers : goal.returns-in-Ok-open-clause-callers
returns-in-Ok-open-clause-callers c = c.in_ok-seated-in-Ok-open.ensures ∙ seated-first c.in-Ok-open.table c.in-Ok-open.passes.items c.in-Ok-open.ensures.passes.fresh
