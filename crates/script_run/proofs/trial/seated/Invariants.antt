use Rattle.std.proofs.Common.{◌≡◌, map, Some}
use Rattle.script_run.specs.declared.trial.Caller.TheVariants.{Idle}
use Rattle.fn_table.specs.Seen.{PassView}
use Rattle.script_run.proofs.trial.seated.Given as goal

abbrev pub invariant-loop-pass : goal.invariant-loop-pass
invariant-loop-pass l = l.callers.items ≡ map (λ (p : PassView). Some (Idle p)) l.yielded
