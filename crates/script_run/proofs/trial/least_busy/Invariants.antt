use Rattle.std.proofs.Common.{◌≡◌, ℕ, ◌<◌, true}
use Rattle.script_run.specs.Slots.{present}
use Rattle.script_run.specs.Trial.{rests_in}
use Rattle.script_run.proofs.trial.least_busy.Given as goal

abbrev pub invariant-loop-pass : goal.invariant-loop-pass
invariant-loop-pass l = (k : ℕ) → k < l.pass → rests_in (present l.callers) k ≡ true
