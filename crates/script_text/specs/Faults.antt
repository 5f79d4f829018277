-- The faults of a script by their table: which line is at fault, and which fault is its first.
use Rattle.std.specs.Prelude.{◌≡◌, ℕ, ◌+◌, ◌^◌, ◌<◌, ◌≤◌, ◌==◌, ◌||◌, ◌⊎◌, Bool, true, false, not, if◌then◌else◌, List, [], ◌∷◌, ◌++◌, length, Option, Some, None, Ok, Err}
use Rattle.script_text.specs.Order.{amount}
use Rattle.script_text.specs.Script.{has_third, line_of, lines_of, verb_of}
use Rattle.script_text.specs.Sound.{total_amount}
use Rattle.text_lines.specs.Steps.{fault_in}
use Rattle.text_lines.specs.Text.{is_amount, is_below, number, words}
use Rattle.script_text.specs.declared.orders.Verb.{Verb}
use Rattle.script_text.specs.declared.orders.Verb.TheVariants as verb
use Rattle.script_text.specs.declared.reading.TheConstants.{MOST_LINES}
use Rattle.script_text.specs.declared.scripts.ScriptFault.{ScriptFault}
use Rattle.script_text.specs.declared.scripts.ScriptFault.TheVariants as fault
use Rattle.script_text.specs.declared.scripts.ScriptLine.{ScriptLine}

-- whether a word is a pass
abbrev pub is_pass : ℕ → List ℕ → Bool
is_pass passes word = is_below passes (number word)

-- whether a known verb has another number of words after it
abbrev pub wrong_count : Option Verb → List (List ℕ) → Bool
wrong_count None more = false
wrong_count (Some v) more = not (length more == (if has_third v then 1 else 0))

-- whether a meeting names no pass
abbrev pub wrong_meeting : ℕ → Option Verb → List (List ℕ) → Bool
wrong_meeting passes (Some verb.Meet) (word ∷ _) = not (is_pass passes word)
wrong_meeting passes _ more = false

-- whether a verb is unknown
abbrev pub wrong_verb : Option Verb → Bool
wrong_verb None = true
wrong_verb (Some _) = false

-- whether a verb that has an amount has none of at least 1
abbrev pub wrong_amount : Option Verb → List (List ℕ) → Bool
wrong_amount (Some verb.Add) (word ∷ _) = not (is_amount word)
wrong_amount (Some verb.Sub) (word ∷ _) = not (is_amount word)
wrong_amount (Some verb.Direct) (word ∷ _) = not (is_amount word)
wrong_amount (Some verb.SubDirect) (word ∷ _) = not (is_amount word)
wrong_amount _ more = false

-- the first fault of a line with a pass, a second word and further ones
abbrev pub verb_fault : ℕ → ℕ → List ℕ → Option Verb → List (List ℕ) → Option ScriptFault
verb_fault passes at pass v more =
    if wrong_count v more then Some (fault.Fields at)
    else (if not (is_pass passes pass) || wrong_meeting passes v more then Some (fault.Pass at)
    else (if wrong_verb v then Some (fault.Op at)
    else (if wrong_amount v more then Some (fault.Amount at)
    else None)))

-- the first fault of a line by its words
abbrev pub line_fault : ℕ → ℕ → List (List ℕ) → Option ScriptFault
line_fault passes at [] = None
line_fault passes at (pass ∷ []) = Some (fault.Fields at)
line_fault passes at (pass ∷ name ∷ more) = verb_fault passes at pass (verb_of name) more

-- the fault with which a line is read is its first one
abbrev pub LineFaultsAreFirst : Type 0
LineFaultsAreFirst = (passes at : ℕ) (all : List (List ℕ)) → fault_in (line_of passes at all) ≡ line_fault passes at all

-- why a line is at fault: by its words; or else it is past the limit; or else with it opening and amounts reach 2^63
abbrev pub IsAtFault : ℕ → ℕ → ℕ → List ℕ → ScriptFault → Type 0
IsAtFault passes at total line found =
    (line_fault passes at (words line) ≡ Some found)
    ⊎ ((line_fault passes at (words line) ≡ None) × (MOST_LINES < at) × (found ≡ fault.TooMany at))
    ⊎ ((item : ScriptLine) × (line_of passes at (words line) ≡ Ok (Some item)) × (at ≤ MOST_LINES) × (2 ^ 63 ≤ total + amount item.order) × (found ≡ fault.Total at))

-- lines that are refused are so for the first of them that is at fault, after those that were read
abbrev pub FirstLineIsAtFault : Type 0
FirstLineIsAtFault = (passes at total : ℕ) (text : List (List ℕ)) (found : ScriptFault) → lines_of passes at total text ≡ Err found
    → (front : List (List ℕ)) × (line : List ℕ) × (rest : List (List ℕ)) × (items : List ScriptLine) × (text ≡ front ++ line ∷ rest)
    × (lines_of passes at total front ≡ Ok items) × IsAtFault passes (at + length front) (total + total_amount items) line found
