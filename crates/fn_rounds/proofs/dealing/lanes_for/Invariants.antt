use Rattle.std.proofs.Common.{◌≡◌, take}
use Rattle.fn_rounds.specs.Dealing.{lanes_for}
use Rattle.fn_rounds.proofs.dealing.lanes_for.Given as goal

abbrev pub invariant-loop-line : goal.invariant-loop-line
invariant-loop-line l = l.lanes.items ≡ lanes_for (take l.line-index l.lines) l.fn.passes.items
