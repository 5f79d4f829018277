use Rattle.std.proofs.Common.{◌≡◌}
use Rattle.script_run.specs.Slots.{present}
use Rattle.script_run.proofs.trial.all_callers.Given as goal

abbrev pub invariant-loop-slot : goal.invariant-loop-slot
invariant-loop-slot l = l.all.items ≡ present l.yielded
