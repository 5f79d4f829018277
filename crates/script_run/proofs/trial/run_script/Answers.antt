use Rattle.std.proofs.Common.{◌≡◌, ℕ, List, [], Option, All, inl, inr, length, sym, ap, subst, ◌∙◌}
use Rattle.fn_core.specs.declared.Start.{Start}
use Rattle.script_text.specs.Sound.{HasPasses}
use Rattle.script_text.specs.declared.scripts.ScriptLine.{ScriptLine}
use Rattle.script_run.specs.declared.trial.Caller.{Caller}
use Rattle.script_run.specs.Slots.{AllStand, HaveLeft, present}
use Rattle.script_run.specs.Trial.{first_callers}
use Rattle.script_run.proofs.Several.{back-is, first-left, first-slots, first-stand, handed-back, line-halted, stops-same, took-same}
use Rattle.script_run.proofs.trial.run_script.Goals as goal

pub do_lines-requires-clause-passes : goal.do_lines-requires-clause-passes
do_lines-requires-clause-passes c =
    let s = first-slots c.args.table c.deref_mut.result.now (c.deref_mut.ensures.value ∙ c.requires.callers) in
    let count : length c.deref_mut.result.now ≡ c.args.script.now.shape.passes = s.2 ∙ ap (λ (x : Start). x.shape.passes) c.requires.start in
    subst (λ (n : ℕ). All (HasPasses n) c.deref.result.now) (sym count) (subst (λ (x : List ScriptLine). All (HasPasses c.args.script.now.shape.passes) x) (sym (c.deref.ensures.value ∙ c.lines.view_is)) c.requires.sound.passes)

pub do_lines-requires-clause-full : goal.do_lines-requires-clause-full
do_lines-requires-clause-full c = (first-slots c.args.table c.deref_mut.result.now (c.deref_mut.ensures.value ∙ c.requires.callers)).0

pub do_lines-requires-clause-stand : goal.do_lines-requires-clause-stand
do_lines-requires-clause-stand c = subst (AllStand c.args.table) (sym (first-slots c.args.table c.deref_mut.result.now (c.deref_mut.ensures.value ∙ c.requires.callers)).1) (first-stand c.args.table)

pub do_lines-requires-clause-left : goal.do_lines-requires-clause-left
do_lines-requires-clause-left c =
    let s = first-slots c.args.table c.deref_mut.result.now (c.deref_mut.ensures.value ∙ c.requires.callers) in
    subst (λ (x : List ScriptLine). HaveLeft (present c.deref_mut.result.now) x) (sym (c.deref.ensures.value ∙ c.lines.view_is)) (subst (λ (x : List Caller). HaveLeft x c.args.script.now.lines) (sym s.1) (first-left c.args.table c.args.script.now c.requires.start))

pub finish-requires-clause-stand : goal.finish-requires-clause-stand
finish-requires-clause-stand c =
    let back = back-is c.args.callers.len c.do_lines.new.callers c.args.callers.items c.deref_mut.result.now c.do_lines.auto.callers c.deref_mut.ensures.value c.deref_mut.ensures.len in
    subst (λ (x : List (Option Caller)). AllStand c.args.table (present x)) (sym back) c.in-Ok.ensures.stand

pub finish-requires-clause-done : goal.finish-requires-clause-done
finish-requires-clause-done c =
    let back = back-is c.args.callers.len c.do_lines.new.callers c.args.callers.items c.deref_mut.result.now c.do_lines.auto.callers c.deref_mut.ensures.value c.deref_mut.ensures.len in
    let s = first-slots c.args.table c.deref_mut.result.now (c.deref_mut.ensures.value ∙ c.requires.callers) in
    took-same (first_callers c.args.table) _ _ _ c.args.script.now.lines _ [] _ c.do_lines.new.text.items s.1 (c.deref.ensures.value ∙ c.lines.view_is) c.new-text.ensures.items (ap present (sym back)) c.in-Ok.ensures.done

pub returns-in-Err-clause-refused : goal.returns-in-Err-clause-refused
returns-in-Err-clause-refused c =
    let back = back-is c.args.callers.len c.do_lines.new.callers c.args.callers.items c.deref_mut.result.now c.do_lines.auto.callers c.deref_mut.ensures.value c.deref_mut.ensures.len in
    let s = first-slots c.args.table c.deref_mut.result.now (c.deref_mut.ensures.value ∙ c.requires.callers) in
    handed-back c.args.script.now c.in-Err.fault c.hand_back.result.0 _ c.hand_back.result.1.items c.hand_back.ensures
    (λ some_fault. line-halted c.args.script.now c.args.table c.in-Err.fault _ c.requires.start
    (elim c.in-Err.ensures.refused [
      | inl none ↦ absurd (some_fault none)
      | inr stops ↦ stops-same (first_callers c.args.table) _ _ _ c.args.script.now.lines _ c.in-Err.fault s.1 (c.deref.ensures.value ∙ c.lines.view_is) (ap present (sym back)) stops
    ])
    (subst (λ (x : List (Option Caller)). AllStand c.args.table (present x)) (sym back) c.in-Err.ensures.stand))
