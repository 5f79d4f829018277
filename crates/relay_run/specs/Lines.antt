-- How a text falls into lines.
--     lines_of text      its lines
--     IsSplit lines answer      these lines were found, or refused
use Rattle.std.specs.Prelude.{◌≡◌, ℕ, ◌+◌, ◌<◌, ◌≤◌, ◌==◌, List, [], ◌∷◌, length, Result, Ok, Err}
use Rattle.std.specs.List.{slice_split}
use Rattle.std.specs.Io.BufRead.{strip_last}
use Rattle.relay_run.specs.declared.lines.TheConstants.{MOST_LINES}
use Rattle.relay_run.specs.declared.lines.Lines.{Lines}
use Rattle.relay_run.specs.declared.lines.LinesFault.{LinesFault}
use Rattle.relay_run.specs.declared.lines.LinesFault.TheVariants.{TooMany, NoMemory}

-- the lines of a text are its parts between newlines, where a newline at the end begins no further line
abbrev pub lines_of : List ℕ → List (List ℕ)
lines_of [] = []
lines_of (byte ∷ bytes) = slice_split (λ b. b == 10) (strip_last 10 (byte ∷ bytes))

-- These lines were found; or there are more than may be, and the first of too many is told; or memory ran out
abbrev pub IsSplit : List (List ℕ) → Result Lines LinesFault → Type 0
IsSplit lines (Ok found) = (found ≡ lines) × (length lines ≤ MOST_LINES)
IsSplit lines (Err (TooMany at)) = (at ≡ MOST_LINES + 1) × (MOST_LINES < length lines)
IsSplit lines (Err NoMemory) = Unit {0}
