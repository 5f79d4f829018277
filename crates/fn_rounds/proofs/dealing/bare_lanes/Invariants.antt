use Rattle.std.proofs.Common.{◌≡◌, []}
use Rattle.fn_rounds.specs.Dealing.{lanes_for}
use Rattle.fn_rounds.proofs.dealing.bare_lanes.Given as goal

abbrev pub invariant-loop-pass : goal.invariant-loop-pass
invariant-loop-pass l = l.lanes.items ≡ lanes_for [] l.yielded
