use Rattle.std.proofs.Common.{List, [], Option, length, sym, ap, subst, ◌∙◌}
use Rattle.script_run.specs.declared.trial.Caller.{Caller}
use Rattle.script_run.specs.declared.play.PlayFault.TheVariants.{Unfinished}
use Rattle.script_run.specs.Slots.{AllStand, TookLines, present}
use Rattle.script_run.specs.Play.{least_busy}
use Rattle.script_run.specs.Trial.{first_callers, rests_in}
use Rattle.script_run.proofs.Several.{all-idle, as-many, handed-back, unfinished-halted}
use Rattle.script_run.proofs.trial.finish.Goals as goal

pub least_busy-requires-clause-passes : goal.least_busy-requires-clause-passes
least_busy-requires-clause-passes c =
    c.passes.ensures
    ∙ sym (ap length c.deref.ensures.value ∙ as-many c.args.table c.args.script.now c.args.callers.items c.args.text.items c.requires.start c.requires.full c.requires.done)

pub close-requires-clause-stand : goal.close-requires-clause-stand
close-requires-clause-stand c = subst (AllStand c.args.table) (all-idle c.args.callers.items c.passes.result c.in-Ok.passes.items c.requires.full (c.passes.ensures ∙ sym (as-many c.args.table c.args.script.now c.args.callers.items c.args.text.items c.requires.start c.requires.full c.requires.done)) (ap (λ (x : List (Option Caller)). least_busy (rests_in (present x)) c.passes.result) (sym c.deref.ensures.value) ∙ sym c.least_busy.ensures ∙ c.in-None.is) c.in-Ok.ensures) c.requires.stand

pub close-requires-clause-done : goal.close-requires-clause-done
close-requires-clause-done c = subst (λ (x : List Caller). TookLines (first_callers c.args.table) c.args.script.now.lines [] x c.args.text.items) (all-idle c.args.callers.items c.passes.result c.in-Ok.passes.items c.requires.full (c.passes.ensures ∙ sym (as-many c.args.table c.args.script.now c.args.callers.items c.args.text.items c.requires.start c.requires.full c.requires.done)) (ap (λ (x : List (Option Caller)). least_busy (rests_in (present x)) c.passes.result) (sym c.deref.ensures.value) ∙ sym c.least_busy.ensures ∙ c.in-None.is) c.in-Ok.ensures) c.requires.done

pub returns-in-Some-clause-refused : goal.returns-in-Some-clause-refused
returns-in-Some-clause-refused c =
    let deref_is = c.deref.ensures.value in
    let busy = sym c.least_busy.ensures ∙ c.in-Some.is in
    handed-back c.args.script.now (Unfinished c.in-Some.pass) c.hand_back.result.0 (present c.args.callers.items) c.hand_back.result.1.items c.hand_back.ensures
    (λ some_fault. unfinished-halted c.args.script.now c.args.table (present c.args.callers.items) c.args.text.items c.passes.result c.in-Some.pass c.requires.start c.passes.ensures c.requires.done c.requires.stand
    (ap (λ (x : List (Option Caller)). least_busy (rests_in (present x)) c.passes.result) (sym deref_is) ∙ busy))
