-- How a text falls into lines and words, and which words are numbers or written as told.
use Rattle.std.specs.Prelude.{ℕ, ◌+◌, ◌-◌, ◌*◌, ◌==◌, ◌&&◌, Bool, false, not, nat_le, nat_lt, if◌then◌else◌, List, [], ◌∷◌, length, Option, Some, None, fold}
use Rattle.std.specs.List.{list_all}
use Rattle.std.specs.Str.{bytes_eq}

-- a byte put before the first of some pieces
abbrev pub onto : ℕ → List (List ℕ) → List (List ℕ)
onto byte [] = (byte ∷ []) ∷ []
onto byte (piece ∷ pieces) = (byte ∷ piece) ∷ pieces

-- whether a text begins with a newline
abbrev pub at_newline : List ℕ → Bool
at_newline [] = false
at_newline (byte ∷ _) = byte == 10

-- a newline ends a line, and a carriage return just before it is dropped
unfoldable pub lines : List ℕ → List (List ℕ)
lines [] = []
lines (byte ∷ text) =
    if byte == 10 then [] ∷ lines text
    else (if (byte == 13) && at_newline text then lines text else onto byte (lines text))

-- a line without a carriage return at its end
unfoldable pub without_return : List ℕ → List ℕ
without_return [] = []
without_return (byte ∷ []) = if byte == 13 then [] else byte ∷ []
without_return (byte ∷ next ∷ line) = byte ∷ without_return (next ∷ line)

-- whether a word goes on with the next byte
abbrev pub goes_on : List ℕ → Bool
goes_on [] = false
goes_on (byte ∷ _) = not (byte == 32)

-- words stand between spaces
unfoldable pub words : List ℕ → List (List ℕ)
words [] = []
words (byte ∷ text) =
    if byte == 32 then words text
    else (if goes_on text then onto byte (words text) else (byte ∷ []) ∷ words text)

abbrev pub is_digit : ℕ → Bool
is_digit byte = nat_le 48 byte && nat_le byte 57

-- what some digits are worth, the first of them most
abbrev pub value : List ℕ → ℕ
value digits = fold (λ worth digit. worth * 10 + (digit - 48)) 0 digits

-- whether a word is a number
abbrev pub is_number : List ℕ → Bool
is_number word = nat_lt 0 (length word) && nat_le (length word) 19 && list_all is_digit word && nat_le (value word) 9223372036854775807

-- the number that a word is: 1 to 19 digits, and a value below 2^63
unfoldable pub number : List ℕ → Option ℕ
number word = if is_number word then Some (value word) else None

-- a number that passes a test
abbrev pub kept : (ℕ → Bool) → Option ℕ → Option ℕ
kept test None = None
kept test (Some n) = if test n then Some n else None

-- whether there is a number below this one
abbrev pub is_below : ℕ → Option ℕ → Bool
is_below most None = false
is_below most (Some n) = nat_lt n most

-- whether there is a number of at least 1
abbrev pub is_least : Option ℕ → Bool
is_least None = false
is_least (Some n) = nat_lt 0 n

-- whether a word is an amount
abbrev pub is_amount : List ℕ → Bool
is_amount word = is_least (number word)

-- the first of these that is written as a word
abbrev pub spelled_as : {A : Type 0} → (A → List ℕ) → List ℕ → List A → Option A
spelled_as spelling word [] = None
spelled_as spelling word (x ∷ others) = if bytes_eq word (spelling x) then Some x else spelled_as spelling word others
