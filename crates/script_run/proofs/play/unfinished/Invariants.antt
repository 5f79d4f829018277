use Rattle.std.proofs.Common.{◌≡◌, ℕ, ◌<◌, true}
use Rattle.fn_core.specs.Calls.{state_in}
use Rattle.script_run.specs.Play.{rests}
use Rattle.script_run.proofs.play.unfinished.Given as goal

abbrev pub invariant-loop-pass : goal.invariant-loop-pass
invariant-loop-pass l = (k : ℕ) → k < l.pass → rests (state_in l.core) k ≡ true
