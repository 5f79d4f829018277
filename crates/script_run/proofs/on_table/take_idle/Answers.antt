use Rattle.std.proofs.Common.{◌≡◌, Option, Some, None, refl, ap, ◌∙◌, slice_set}
use Rattle.script_run.specs.declared.trial.Caller.{Caller}
use Rattle.script_run.specs.declared.trial.Caller.TheVariants.{Pending}
use Rattle.script_run.specs.Slots.{is_resting_slot}
use Rattle.script_run.proofs.Replaced.{kept-slot}
use Rattle.script_run.proofs.on_table.take_idle.Goals as goal

pub returns-in-Some-Pending-clause-busy : goal.returns-in-Some-Pending-clause-busy
returns-in-Some-Pending-clause-busy c =
    let there : Option Caller = Some (Pending c.in-Some-Pending.pending) in
    let is : c.take.result ≡ there = c.in-Some-Pending.is ∙ ap (λ (x : Caller). let o : Option Caller = Some x in o) c.in-Some-Pending.field-0-is in
    let k = kept-slot c.args.callers.now c.args.number c.index-callers-number.result c.take.result there c.requires c.index-callers-number.is c.take.ensures.value is in
    (ap is_resting_slot k.0, refl, k.1)

pub returns-in-None-clause-busy : goal.returns-in-None-clause-busy
returns-in-None-clause-busy c =
    let empty : Option Caller = None in
    let k = kept-slot c.args.callers.now c.args.number c.index-callers-number.result c.take.result empty c.requires c.index-callers-number.is c.take.ensures.value c.in-None.is in
    (ap is_resting_slot k.0, refl, ap (λ (x : Option Caller). slice_set c.args.callers.now c.args.number x) c.take.ensures.after ∙ k.1)
