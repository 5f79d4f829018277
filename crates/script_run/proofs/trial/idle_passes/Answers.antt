use Rattle.std.proofs.Common.{List, [], ◌∷◌, ◌++◌, sym, ap, ◌∙◌}
use Rattle.std.proofs.lemmas.List.{append-nil}
use Rattle.fn_table.specs.Seen.{PassView}
use Rattle.script_run.specs.Slots.{idle_passes}
use Rattle.script_run.proofs.Several.{idle-more, idle-none-more, idle-one}
use Rattle.script_run.proofs.trial.idle_passes.Goals as goal

pub loop-slot-preserved-in-Continue-1 : goal.loop-slot-preserved-in-Continue-1
loop-slot-preserved-in-Continue-1 c =
    c.in_ok-push-in-Some-idle_pass.ensures.items ∙ ap (λ (x : List PassView). x ++ c.in-Some-idle_pass.pass ∷ []) c.loop-slot.invariant
    ∙ ap (λ (x : List PassView). idle_passes c.loop-slot.yielded ++ x) (sym (idle-one c.in-Some.slot c.idle_pass.result c.in-Some-idle_pass.pass c.idle_pass.ensures c.in-Some-idle_pass.is)) ∙ sym (idle-more c.loop-slot.yielded c.in-Some.slot)

pub loop-slot-preserved : goal.loop-slot-preserved
loop-slot-preserved c =
    c.loop-slot.invariant ∙ sym (append-nil (idle_passes c.loop-slot.yielded))
    ∙ ap (λ (x : List PassView). idle_passes c.loop-slot.yielded ++ x) (sym (idle-none-more c.in-Some.slot c.idle_pass.result c.idle_pass.ensures c.in-None-idle_pass.is)) ∙ sym (idle-more c.loop-slot.yielded c.in-Some.slot)
