use Rattle.std.proofs.Common.{◌≡◌}
use Rattle.script_run.specs.Slots.{idle_passes}
use Rattle.script_run.proofs.trial.idle_passes.Given as goal

abbrev pub invariant-loop-slot : goal.invariant-loop-slot
invariant-loop-slot l = l.passes.items ≡ idle_passes l.yielded
