use Rattle.std.proofs.Common.{◌≡◌, Option, Some, None, refl, ap, ◌∙◌}
use Rattle.script_run.specs.declared.trial.Caller.{Caller}
use Rattle.script_run.specs.declared.trial.Caller.TheVariants.{Idle}
use Rattle.script_run.specs.Slots.{is_resting_slot}
use Rattle.script_run.proofs.Replaced.{full-some-there, kept-slot}
use Rattle.script_run.proofs.on_table.take_pending.Goals as goal

pub returns-in-Some-Idle-clause-idle : goal.returns-in-Some-Idle-clause-idle
returns-in-Some-Idle-clause-idle c =
    let there : Option Caller = Some (Idle c.in-Some-Idle.pass) in
    let is : c.take.result ≡ there = c.in-Some-Idle.is ∙ ap (λ (x : Caller). let o : Option Caller = Some x in o) c.in-Some-Idle.field-0-is in
    let k = kept-slot c.args.callers.now c.args.number c.index-callers-number.result c.take.result there c.requires.inside c.index-callers-number.is c.take.ensures.value is in
    (ap is_resting_slot k.0, refl, k.1)

pub returns-in-None-clause-idle : goal.returns-in-None-clause-idle
returns-in-None-clause-idle c =
    let empty : Option Caller = None in
    let k = kept-slot c.args.callers.now c.args.number c.index-callers-number.result c.take.result empty c.requires.inside c.index-callers-number.is c.take.ensures.value c.in-None.is in
    absurd (full-some-there c.args.callers.now c.args.number c.requires.full k.0)
