-- The faults of a text of takes by their table: which line is at fault, and which fault is its first.
use Rattle.std.specs.Prelude.{◌≡◌, ℕ, ◌+◌, ◌^◌, ◌<◌, ◌≤◌, ◌||◌, ◌⊎◌, ◌↔◌, not, if◌then◌else◌, List, [], ◌∷◌, ◌++◌, length, Option, Some, None, is_none, Err}
use Rattle.std.specs.List.{sum_by}
use Rattle.text_lines.specs.Text.{is_amount, is_below}
use Rattle.text_lines.specs.Steps.{fault_in}
use Rattle.text_lines.specs.Text.{lines, number, words}
use Rattle.throttle_run.specs.Grammar.{SpellsTake, SpellsTakes}
use Rattle.throttle_run.specs.Lines.{cost, line_of, throttle_of}
use Rattle.throttle_run.specs.declared.faults.ThrottleFault.{ThrottleFault}
use Rattle.throttle_run.specs.declared.faults.ThrottleFault.TheVariants as fault
use Rattle.throttle_run.specs.declared.lines.ThrottleLine.{ThrottleLine}

-- the first fault of a line by its words
abbrev pub line_fault : ℕ → ℕ → List (List ℕ) → Option ThrottleFault
line_fault workers at [] = None
line_fault workers at (worker ∷ now ∷ amount ∷ []) =
    if not (is_below workers (number worker)) then Some (fault.Worker at)
    else (if is_none (number now) || not (is_amount amount) then Some (fault.Amount at)
    else None)
line_fault workers at _ = Some (fault.Fields at)

-- why a line is at fault, where the burst and all costs before it come to this total: by its words;
-- or else it is past the limit; or else with its own cost the total reaches 2^63
abbrev pub IsAtFault : ℕ → ℕ → ℕ → ℕ → List ℕ → ThrottleFault → Type 0
IsAtFault workers burst at total line found =
    (line_fault workers at (words line) ≡ Some found)
    ⊎ ((line_fault workers at (words line) ≡ None) × (1000000 < at) × (found ≡ fault.TooMany at))
    ⊎ ((item : ThrottleLine) × SpellsTake workers at item (words line) × (at ≤ 1000000) × (2 ^ 63 ≤ total + cost burst item) × (found ≡ fault.Total at))

-- the fault of the first line that is at fault, after lines that say takes
pub record IsFirstFault (workers burst : ℕ) (text : List (List ℕ)) (found : ThrottleFault) : Type 0 where
  pub front : List (List ℕ)
  pub line : List ℕ
  pub rest : List (List ℕ)
  pub items : List ThrottleLine
  pub whole : text ≡ front ++ line ∷ rest
  pub before : SpellsTakes workers burst front items
  pub at_fault : IsAtFault workers burst (1 + length front) (burst + sum_by (cost burst) items) line found

-- a text is refused for its first fault, unless memory ran out
abbrev pub IsRefusedFor : ℕ → ℕ → List (List ℕ) → ThrottleFault → Type 0
IsRefusedFor workers burst text fault.NoMemory = Unit {0}
IsRefusedFor workers burst text found = IsFirstFault workers burst text found

-- the fault with which a line is read is its first one
abbrev pub LineFaultsAreFirst : Type 0
LineFaultsAreFirst = (workers at : ℕ) (all : List (List ℕ)) → fault_in (line_of workers at all) ≡ line_fault workers at all

-- the fault with which a text is read is that of the first line at fault, and that one is told
abbrev pub FirstFaultIsTold : Type 0
FirstFaultIsTold = (workers burst : ℕ) (bytes : List ℕ) (found : ThrottleFault) → burst < 2 ^ 63
    → (throttle_of workers burst bytes ≡ Err found) ↔ IsFirstFault workers burst (lines bytes) found
