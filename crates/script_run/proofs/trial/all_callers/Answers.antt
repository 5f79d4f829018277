use Rattle.std.proofs.Common.{List, [], ◌∷◌, ◌++◌, Option, sym, ap, ◌∙◌}
use Rattle.std.proofs.lemmas.List.{append-nil}
use Rattle.script_run.specs.declared.trial.Caller.{Caller}
use Rattle.script_run.specs.Slots.{present}
use Rattle.script_run.proofs.Several.{present-more}
use Rattle.script_run.proofs.trial.all_callers.Goals as goal

pub loop-slot-preserved-in-Continue-1 : goal.loop-slot-preserved-in-Continue-1
loop-slot-preserved-in-Continue-1 c =
    c.in_ok-push-in-Some-slot.ensures.items ∙ ap (λ (x : List Caller). x ++ c.in-Some-slot.caller ∷ []) c.loop-slot.invariant
    ∙ ap (λ (x : Option Caller). present c.loop-slot.yielded ++ present (x ∷ [])) (sym c.in-Some-slot.is) ∙ sym (present-more c.loop-slot.yielded c.in-Some.slot)

pub loop-slot-preserved : goal.loop-slot-preserved
loop-slot-preserved c =
    c.loop-slot.invariant ∙ sym (append-nil (present c.loop-slot.yielded)) ∙ ap (λ (x : Option Caller). present c.loop-slot.yielded ++ present (x ∷ [])) (sym c.in-None-slot.is) ∙ sym (present-more c.loop-slot.yielded c.in-Some.slot)
