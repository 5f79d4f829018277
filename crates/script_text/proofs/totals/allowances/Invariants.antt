use Rattle.std.proofs.Common.{◌≡◌, take}
use Rattle.script_text.specs.Sound.{allowances}
use Rattle.script_text.proofs.totals.allowances.Given as goal

abbrev pub invariant-loop-line : goal.invariant-loop-line
invariant-loop-line l = l.sums.items ≡ allowances (take l.line-index l.line-items) l.script.shape.passes
