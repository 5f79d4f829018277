-- When a script is sound, and what its passes are allowed.
use Rattle.std.specs.Prelude.{ℕ, ◌+◌, ◌^◌, ◌<◌, ◌≤◌, ◌==◌, if◌then◌else◌, List, [], ◌∷◌, map}
use Rattle.std.specs.List.{All, range_with_len, sum_by}
use Rattle.script_text.specs.Order.{amount}
use Rattle.script_text.specs.declared.reading.TheConstants.{MOST_LINES}
use Rattle.script_text.specs.declared.scripts.Order.{Order}
use Rattle.script_text.specs.declared.scripts.Order.TheVariants.{Add, Sub, Direct, SubDirect, Meet}
use Rattle.script_text.specs.declared.scripts.Script.{Script}
use Rattle.script_text.specs.declared.scripts.ScriptLine.{ScriptLine}

-- an order names no pass that isn't there
abbrev pub MeetsBelow : ℕ → Order → Type 0
MeetsBelow passes (Meet q) = q < passes
MeetsBelow passes _ = Unit {0}

-- the passes of a line are there
abbrev pub HasPasses : ℕ → ScriptLine → Type 0
HasPasses passes line = (line.pass < passes) × MeetsBelow passes line.order

-- an order with an amount has one of at least 1
abbrev pub HasAmount : Order → Type 0
HasAmount (Add n) = 1 ≤ n
HasAmount (Sub n) = 1 ≤ n
HasAmount (Direct n) = 1 ≤ n
HasAmount (SubDirect n) = 1 ≤ n
HasAmount _ = Unit {0}

-- the amounts of some lines together
abbrev pub total_amount : List ScriptLine → ℕ
total_amount lines = sum_by (λ line. amount line.order) lines

-- a sound script: its passes are there, its amounts are at least 1, and opening and amounts stay below 2^63
pub record IsSound (script : Script) : Type 0 where
  pub passes : All (HasPasses script.shape.passes) script.lines
  pub amounts : All (λ line. HasAmount line.order) script.lines
  pub total : script.opening + total_amount script.lines < 2 ^ 63

-- the numbers of these lines rise, and are above this one
abbrev pub RisesAbove : ℕ → List ScriptLine → Type 0
RisesAbove at [] = Unit {0}
RisesAbove at (line ∷ rest) = (at < line.at) × RisesAbove line.at rest

-- lines stand in rising order after the first line, and none is past the limit
pub record IsNumbered (lines : List ScriptLine) : Type 0 where
  pub rising : RisesAbove 1 lines
  pub within : All (λ line. line.at ≤ MOST_LINES) lines

-- what a pass is allowed: the sum of the amounts on its lines
abbrev pub allowance : List ScriptLine → ℕ → ℕ
allowance lines pass = sum_by (λ line. if line.pass == pass then amount line.order else 0) lines

-- what each of so many passes is allowed
abbrev pub allowances : List ScriptLine → ℕ → List ℕ
allowances lines passes = map (allowance lines) (range_with_len 0 passes)
