-- What holds of every script.
use Rattle.std.specs.Prelude.{◌≡◌, ℕ, ◌+◌, ◌<◌, ◌≤◌, List, length, slice_index_or, sum, take}
use Rattle.std.specs.List.{All}
use Rattle.script_text.specs.Order.{amount}
use Rattle.script_text.specs.Sound.{HasPasses, allowance, allowances, total_amount}
use Rattle.script_text.specs.declared.scripts.ScriptLine.{ScriptLine}

-- what the passes are allowed comes to all amounts
abbrev pub AllowancesAddUp : Type 0
AllowancesAddUp = (lines : List ScriptLine) (passes : ℕ) → All (HasPasses passes) lines → sum (allowances lines passes) ≡ total_amount lines

-- no line asks for more than the lines before it have left of what its pass is allowed
abbrev pub LinesAreAllowed : Type 0
LinesAreAllowed = (lines : List ScriptLine) (i : ℕ) (d : ScriptLine) → i < length lines
    → allowance (take i lines) (slice_index_or lines i d).pass + amount (slice_index_or lines i d).order ≤ allowance lines (slice_index_or lines i d).pass
