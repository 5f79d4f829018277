use Rattle.std.proofs.Common.{refl}
use Rattle.fn_core.specs.declared.answer.CoreStep.TheVariants as told
use Rattle.script_run.specs.declared.trial.Caller.TheVariants.{Pending}
use Rattle.script_run.proofs.on_table.polled.Goals as goal

pub returns-in-NotYet : goal.returns-in-NotYet
returns-in-NotYet c = (told.NotYet c.in-NotYet.why, c.in-NotYet.pending.pass, c.in-NotYet.ensures.0, refl, λ i. Pending (record { pass = c.in-NotYet.pending.pass; rows = c.in-NotYet.ensures.1 i }))
