-- The first fault of a whole script: that of the least line, and there the first in the order of faults.
use Rattle.std.specs.Prelude.{◌≡◌, ◌≢◌, ℕ, ◌+◌, ◌^◌, ◌<◌, ◌≤◌, ◌⊎◌, List, [], ◌∷◌, ◌++◌, length, map, Some, None, Err, codes}
use Rattle.std.specs.List.{AllByRecursion}
use Rattle.fn_layout.specs.Shape.{first_fault}
use Rattle.fn_layout.specs.declared.shape.ShapeFault.{ShapeFault}
use Rattle.script_text.specs.Faults.{line_fault}
use Rattle.script_text.specs.Grammar.{SpellsHeader, SpellsLine, SpellsLines}
use Rattle.script_text.specs.Order.{amount}
use Rattle.script_text.specs.Script.{Header, capped, script_of}
use Rattle.script_text.specs.Sound.{total_amount}
use Rattle.text_lines.specs.Text.{lines, number, words}
use Rattle.script_text.specs.declared.scripts.ScriptFault.{ScriptFault}
use Rattle.script_text.specs.declared.scripts.ScriptFault.TheVariants as fault
use Rattle.script_text.specs.declared.scripts.ScriptLine.{ScriptLine}

-- no line has words
abbrev pub AreBlank : List (List ℕ) → Type 0
AreBlank text = AllByRecursion (λ line. words line ≡ []) text

-- the first line with words, after lines without
pub record IsFirst (text front : List (List ℕ)) (first : List ℕ) (rest : List (List ℕ)) : Type 0 where
  pub whole : text ≡ front ++ first ∷ rest
  pub blank : AreBlank front
  pub spoken : words first ≢ []

-- `funnel` and five numbers
abbrev pub HasNumbers : List (List ℕ) → ℕ → ℕ → ℕ → ℕ → ℕ → Type 0
HasNumbers all passes leaves levels rows opening =
    (five : List (List ℕ)) × (all ≡ codes "funnel" ∷ five) × (map number five ≡ Some passes ∷ Some leaves ∷ Some levels ∷ Some rows ∷ Some opening ∷ [])

-- the fault of a first line with this number: it isn't `funnel` and five numbers, or else these are no shape
abbrev pub IsHeaderFault : ℕ → List (List ℕ) → ScriptFault → Type 0
IsHeaderFault at all found =
    (((passes leaves levels rows opening : ℕ) → HasNumbers all passes leaves levels rows opening → ⊥) × (found ≡ fault.Header at))
    ⊎ ((passes : ℕ) × (leaves : ℕ) × (levels : ℕ) × (rows : ℕ) × (opening : ℕ) × HasNumbers all passes leaves levels rows opening
    × ((why : ShapeFault) × (first_fault (capped passes) (capped leaves) (capped levels) (capped rows) ≡ Some why) × (found ≡ fault.Shape why)))

-- lines after a first one with this number that say these orders, within both limits
pub record AreGood (header : Header) (at : ℕ) (items : List ScriptLine) (text : List (List ℕ)) : Type 0 where
  pub orders : SpellsLines header.passes (at + 1) items text
  pub limit : at + length text ≤ 65536
  pub total : header.opening + total_amount items < 2 ^ 63

-- the fault of a later line with this number, where opening and amounts before it come to `total`: by its words, or else it is past the limit, or else with it they reach 2^63
abbrev pub IsLineFault : ℕ → ℕ → ℕ → List ℕ → ScriptFault → Type 0
IsLineFault passes at total line found =
    (line_fault passes at (words line) ≡ Some found)
    ⊎ ((line_fault passes at (words line) ≡ None) × (65536 < at) × (found ≡ fault.TooMany at))
    ⊎ ((item : ScriptLine) × (item.at ≡ at) × SpellsLine passes item (words line) × (at ≤ 65536) × (2 ^ 63 ≤ total + amount item.order) × (found ≡ fault.Total at))

-- the fault of the first line at fault after a good header with this number
abbrev pub IsLaterFault : Header → ℕ → List (List ℕ) → ScriptFault → Type 0
IsLaterFault header at text found =
    (front : List (List ℕ)) × (line : List ℕ) × (rest : List (List ℕ)) × (items : List ScriptLine) × (text ≡ front ++ line ∷ rest) × AreGood header at items front
    × IsLineFault header.passes (at + 1 + length front) (header.opening + total_amount items) line found

-- the fault of a script whose first line with words has this number: a line without words before it is past the limit, or that line has a fault, or it is past the limit, or a later line has a fault
abbrev pub IsFaultFrom : ℕ → List ℕ → List (List ℕ) → ScriptFault → Type 0
IsFaultFrom at first rest found =
    ((65537 < at) × (found ≡ fault.TooMany 65537))
    ⊎ ((at ≤ 65537) × IsHeaderFault at (words first) found)
    ⊎ ((header : Header) × SpellsHeader header (words first) × (at ≡ 65537) × (found ≡ fault.TooMany at))
    ⊎ ((header : Header) × SpellsHeader header (words first) × IsLaterFault header at rest found)

-- the first fault of the lines of a script: there is no line with words, or it is found from the first of them on
abbrev pub IsFirstFault : List (List ℕ) → ScriptFault → Type 0
IsFirstFault text found =
    (AreBlank text × (found ≡ fault.Header 1))
    ⊎ ((front : List (List ℕ)) × (first : List ℕ) × (rest : List (List ℕ)) × IsFirst text front first rest × IsFaultFrom (1 + length front) first rest found)

-- a script is refused for its first fault, unless memory ran out
abbrev pub IsRefusedFor : List (List ℕ) → ScriptFault → Type 0
IsRefusedFor text fault.NoMemory = Unit {0}
IsRefusedFor text found = IsFirstFault text found

-- a script that is refused is so for its first fault
abbrev pub RefusedForFirst : Type 0
RefusedForFirst = (bytes : List ℕ) (found : ScriptFault) → script_of bytes ≡ Err found → IsFirstFault (lines bytes) found

-- a script that has a first fault is refused for it
abbrev pub FirstIsRefused : Type 0
FirstIsRefused = (bytes : List ℕ) (found : ScriptFault) → IsFirstFault (lines bytes) found → script_of bytes ≡ Err found
