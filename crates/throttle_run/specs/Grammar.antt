-- The grammar of a text of takes: which lines say what, apart from how they are read and from any fault.
use Rattle.std.specs.Prelude.{◌≡◌, ℕ, ◌+◌, ◌^◌, ◌<◌, ◌≤◌, ◌⊎◌, ◌↔◌, List, [], ◌∷◌, length, Some, Ok}
use Rattle.std.specs.List.{sum_by}
use Rattle.text_lines.specs.Text.{lines, number, words}
use Rattle.throttle_run.specs.Lines.{cost, throttle_of}
use Rattle.throttle_run.specs.declared.lines.ThrottleLine.{ThrottleLine}

-- the words of a take on the line of this number: a worker that is there, a moment, and an amount of
-- at least 1
pub record SpellsTake (workers at : ℕ) (line : ThrottleLine) (all : List (List ℕ)) : Type 0 where
  pub worker : List ℕ
  pub moment : List ℕ
  pub tokens : List ℕ
  pub spelled : all ≡ worker ∷ moment ∷ tokens ∷ []
  pub worker_is : number worker ≡ Some line.worker
  pub moment_is : number moment ≡ Some line.now
  pub tokens_are : number tokens ≡ Some line.amount
  pub below : line.worker < workers
  pub least : 1 ≤ line.amount
  pub place : line.at ≡ at

-- lines from this number on: each has no words, or says the next of the takes
abbrev pub SpellsLines : ℕ → ℕ → List ThrottleLine → List (List ℕ) → Type 0
SpellsLines workers at items [] = items ≡ []
SpellsLines workers at items (line ∷ rest) =
    ((words line ≡ []) × SpellsLines workers (at + 1) items rest)
    ⊎ ((item : ThrottleLine) × (more : List ThrottleLine) × (items ≡ item ∷ more) × SpellsTake workers at item (words line) × SpellsLines workers (at + 1) more rest)

-- the lines of a text say these takes, within both limits
pub record SpellsTakes (workers burst : ℕ) (text : List (List ℕ)) (items : List ThrottleLine) : Type 0 where
  pub each : SpellsLines workers 1 items text
  pub limit : length text ≤ 1000000
  pub total : burst + sum_by (cost burst) items < 2 ^ 63

-- what a text is read as is what its lines say, and that is read
abbrev pub TakesAreRead : Type 0
TakesAreRead = (workers burst : ℕ) (bytes : List ℕ) (items : List ThrottleLine) → burst < 2 ^ 63
    → (throttle_of workers burst bytes ≡ Ok items) ↔ SpellsTakes workers burst (lines bytes) items
