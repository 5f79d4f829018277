-- What each field of a record of a trace says.
use Rattle.std.specs.Prelude.{ℕ, ◌==◌, ◌&&◌, ◌||◌, Bool, not, nat_le, nat_lt, if◌then◌else◌, List, [], ◌∷◌, length, Option, Some, None, codes}
use Rattle.std.specs.Char.{is_ascii_alphanumeric}
use Rattle.std.specs.List.{list_all}
use Rattle.std.specs.Option.{unwrap_or}
use Rattle.std.specs.Str.{bytes_eq}
use Rattle.csv.specs.Records.{field_at}
use Rattle.text_lines.specs.Text.{kept, number, spelled_as}
use Rattle.trace_text.specs.declared.fields.Action.{Action}
use Rattle.trace_text.specs.declared.fields.Action.TheVariants.{Open, Settle, Call}
use Rattle.trace_text.specs.declared.fields.Format.{Format}
use Rattle.trace_text.specs.declared.fields.Format.TheVariants.{Plain, Capped}
use Rattle.text_lines.specs.declared.pieces.TheConstants.{MOST_NUMBER}
use Rattle.trace_text.specs.declared.traces.Op.TheVariants.{Add, Take, Direct, Read}

-- the field of a record at a place, which has no bytes where there is none
abbrev pub field : List (List ℕ) → ℕ → List ℕ
field row i = unwrap_or (field_at row i) []

-- how many fields each record has
abbrev pub width : Format → ℕ
width Plain = 4
width Capped = 5

-- whether a record begins with the four names of every first record
unfoldable pub names_four : List (List ℕ) → Bool
names_four row = bytes_eq (field row 0) (codes "worker") && bytes_eq (field row 1) (codes "op") && bytes_eq (field row 2) (codes "tenant") && bytes_eq (field row 3) (codes "amount")

-- the format that the first record names
unfoldable pub format_of : List (List ℕ) → Option Format
format_of row =
    if not (names_four row) then None
    else (if length row == 4 then Some Plain
    else (if (length row == 5) && bytes_eq (field row 4) (codes "cap") then Some Capped
    else None))

-- a worker: a number below `workers`
unfoldable pub worker_of : ℕ → List ℕ → Option ℕ
worker_of workers word = kept (λ n. nat_lt n workers) (number word)

-- how an action is written
abbrev pub spelling : Action → List ℕ
spelling Open = codes "open"
spelling Settle = codes "settle"
spelling (Call Add) = codes "add"
spelling (Call Take) = codes "take"
spelling (Call Direct) = codes "direct"
spelling (Call Read) = codes "read"

-- the actions of a format
abbrev pub actions : Format → List Action
actions Plain = Open ∷ Call Add ∷ Call Take ∷ Call Direct ∷ Call Read ∷ []
actions Capped = Open ∷ Call Add ∷ Call Take ∷ Call Direct ∷ Call Read ∷ Settle ∷ []

-- the action that a word is
unfoldable pub action_of : Format → List ℕ → Option Action
action_of format word = spelled_as spelling word (actions format)

-- a byte of a name: a letter, a digit, `-`, `.` or `_`
abbrev pub is_name_byte : ℕ → Bool
is_name_byte byte = is_ascii_alphanumeric byte || (byte == 45) || (byte == 46) || (byte == 95)

-- a name: 1 to 32 such bytes
abbrev pub is_name : List ℕ → Bool
is_name word = nat_lt 0 (length word) && nat_le (length word) 32 && list_all is_name_byte word

-- the tenant that an action has: `-` for a settle, and else a name
unfoldable pub is_tenant : Action → List ℕ → Bool
is_tenant Settle word = bytes_eq word (codes "-")
is_tenant Open word = is_name word
is_tenant (Call _) word = is_name word

-- the amount that an action has: for an opening any number, for a settle and a read 0, and else at least 1
unfoldable pub amount_of : Action → List ℕ → Option ℕ
amount_of Open word = number word
amount_of Settle word = kept (λ n. n == 0) (number word)
amount_of (Call Read) word = kept (λ n. n == 0) (number word)
amount_of (Call Add) word = kept (λ n. nat_lt 0 n) (number word)
amount_of (Call Take) word = kept (λ n. nat_lt 0 n) (number word)
amount_of (Call Direct) word = kept (λ n. nat_lt 0 n) (number word)

-- the cap that an action has: for an opening a number not below its amount, and else 0;
-- where records have none, it is the greatest number
unfoldable pub cap_of : Format → Action → ℕ → List ℕ → Option ℕ
cap_of Plain action amount word = Some MOST_NUMBER
cap_of Capped Open amount word = kept (λ n. nat_le amount n) (number word)
cap_of Capped Settle amount word = kept (λ n. n == 0) (number word)
cap_of Capped (Call _) amount word = kept (λ n. n == 0) (number word)
