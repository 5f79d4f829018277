-- What a script says, or its first fault: that of the least line, and there the first of the order
-- in which the faults are declared.
use Rattle.std.specs.Prelude.{◌≡◌, ℕ, ◌+◌, Bool, true, false, nat_lt, if◌then◌else◌, List, [], ◌∷◌, ◌++◌, Option, Some, None, option_and_then, option_to_list, Result, Ok, Err, min, codes}
use Rattle.std.specs.Str.{bytes_eq}
use Rattle.fn_layout.specs.Shape.{first_fault}
use Rattle.fn_layout.specs.declared.shape.Shape.{Shape}
use Rattle.fn_layout.specs.declared.shape.ShapeFault.{ShapeFault}
use Rattle.script_text.specs.Order.{amount}
use Rattle.text_lines.specs.Steps.{◌>>=◌, required}
use Rattle.text_lines.specs.Text.{lines, words, number, spelled_as}
use Rattle.text_lines.specs.declared.pieces.TheConstants.{MOST_NUMBER}
use Rattle.script_text.specs.declared.reading.TheConstants.{MOST_LINES}
use Rattle.script_text.specs.declared.orders.Verb.{Verb}
use Rattle.script_text.specs.declared.orders.Verb.TheVariants as verb
use Rattle.script_text.specs.declared.scripts.Order.{Order}
use Rattle.script_text.specs.declared.scripts.Order.TheVariants as order
use Rattle.script_text.specs.declared.scripts.Script.{Script}
use Rattle.script_text.specs.declared.scripts.ScriptFault.{ScriptFault}
use Rattle.script_text.specs.declared.scripts.ScriptFault.TheVariants as fault
use Rattle.script_text.specs.declared.scripts.ScriptLine.{ScriptLine}

-- a pass: a number below `passes`
unfoldable pub pass_of : ℕ → ℕ → Option (List ℕ) → Result ℕ ScriptFault
pass_of passes at word = do
  n ← required (fault.Pass at) (option_and_then number word)
  if nat_lt n passes then Ok n else Err (fault.Pass at)

-- an amount: a number of at least 1
unfoldable pub amount_of : ℕ → Option (List ℕ) → Result ℕ ScriptFault
amount_of at word = do
  n ← required (fault.Amount at) (option_and_then number word)
  if nat_lt 0 n then Ok n else Err (fault.Amount at)

-- how a verb is written
abbrev pub spelling : Verb → List ℕ
spelling verb.Add = codes "add"
spelling verb.Sub = codes "sub"
spelling verb.Direct = codes "direct"
spelling verb.SubDirect = codes "subdirect"
spelling verb.Read = codes "read"
spelling verb.Step = codes "step"
spelling verb.Poll = codes "poll"
spelling verb.Meet = codes "meet"

abbrev pub verbs : List Verb
verbs = verb.Add ∷ verb.Sub ∷ verb.Direct ∷ verb.SubDirect ∷ verb.Read ∷ verb.Step ∷ verb.Poll ∷ verb.Meet ∷ []

-- the verb that a word is
unfoldable pub verb_of : List ℕ → Option Verb
verb_of name = spelled_as spelling name verbs

-- whether an amount or a pass follows a verb
abbrev pub has_third : Verb → Bool
has_third verb.Read = false
has_third verb.Step = false
has_third verb.Poll = false
has_third _ = true

-- no word follows
abbrev pub no_third : ℕ → List (List ℕ) → Result (Option (List ℕ)) ScriptFault
no_third at [] = Ok None
no_third at (_ ∷ _) = Err (fault.Fields at)

-- one word follows
abbrev pub one_third : ℕ → List (List ℕ) → Result (Option (List ℕ)) ScriptFault
one_third at [] = Err (fault.Fields at)
one_third at (third ∷ []) = Ok (Some third)
one_third at (_ ∷ _ ∷ _) = Err (fault.Fields at)

-- the third word of a line, of the words after its verb: one where the verb has it, else none
unfoldable pub third_of : ℕ → Verb → List (List ℕ) → Result (Option (List ℕ)) ScriptFault
third_of at verb more = if has_third verb then one_third at more else no_third at more

-- the order that a verb and the third word make
unfoldable pub order_of : ℕ → ℕ → Verb → Option (List ℕ) → Result Order ScriptFault
order_of passes at verb.Add third = amount_of at third >>= λ n. Ok (order.Add n)
order_of passes at verb.Sub third = amount_of at third >>= λ n. Ok (order.Sub n)
order_of passes at verb.Direct third = amount_of at third >>= λ n. Ok (order.Direct n)
order_of passes at verb.SubDirect third = amount_of at third >>= λ n. Ok (order.SubDirect n)
order_of passes at verb.Read third = Ok order.Read
order_of passes at verb.Step third = Ok order.Step
order_of passes at verb.Poll third = Ok order.Poll
order_of passes at verb.Meet third = pass_of passes at third >>= λ q. Ok (order.Meet q)

-- a line by its pass, its verb and the words after it
unfoldable pub verb_line : ℕ → ℕ → List ℕ → Option Verb → List (List ℕ) → Result (Option ScriptLine) ScriptFault
verb_line passes at pass None more = pass_of passes at (Some pass) >>= λ _. Err (fault.Op at)
verb_line passes at pass (Some verb) more = do
  third ← third_of at verb more
  p ← pass_of passes at (Some pass)
  o ← order_of passes at verb third
  Ok (Some (record { at = at; pass = p; order = o }))

-- a line by its words; one without words says nothing
unfoldable pub line_of : ℕ → ℕ → List (List ℕ) → Result (Option ScriptLine) ScriptFault
line_of passes at [] = Ok None
line_of passes at (pass ∷ []) = Err (fault.Fields at)
line_of passes at (pass ∷ name ∷ more) = verb_line passes at pass (verb_of name) more

-- a line within the limit
unfoldable pub within_limit : ℕ → Result (Unit {0}) ScriptFault
within_limit at = if nat_lt MOST_LINES at then Err (fault.TooMany at) else Ok tt

-- what opening and amounts come to with a further line
unfoldable pub total_with : ℕ → ℕ → Option ScriptLine → Result ℕ ScriptFault
total_with at total None = Ok total
total_with at total (Some line) = if nat_lt MOST_NUMBER (total + amount line.order) then Err (fault.Total at) else Ok (total + amount line.order)

-- the lines that follow the first one, from this number on, with what opening and amounts have come to
unfoldable pub lines_of : ℕ → ℕ → ℕ → List (List ℕ) → Result (List ScriptLine) ScriptFault
lines_of passes at total [] = Ok []
lines_of passes at total (line ∷ rest) = do
  read ← line_of passes at (words line)
  _ ← within_limit at
  sum ← total_with at total read
  more ← lines_of passes (at + 1) sum rest
  Ok (option_to_list read ++ more)

-- the numbers of the first line
pub record Header : Type 0 where
  pub passes : ℕ
  pub leaves : ℕ
  pub levels : ℕ
  pub rows : ℕ
  pub opening : ℕ

-- the words after `funnel`
unfoldable pub after_funnel : ℕ → List (List ℕ) → Result (List (List ℕ)) ScriptFault
after_funnel at [] = Err (fault.Header at)
after_funnel at (name ∷ more) = if bytes_eq name (codes "funnel") then Ok more else Err (fault.Header at)

-- the number that the next word of the first line is, and the words after it
unfoldable pub next_number : ℕ → List (List ℕ) → Result (ℕ × List (List ℕ)) ScriptFault
next_number at [] = Err (fault.Header at)
next_number at (word ∷ more) = required (fault.Header at) (number word) >>= λ n. Ok (n, more)

-- the first line has no further word
unfoldable pub no_more : ℕ → List (List ℕ) → Result (Unit {0}) ScriptFault
no_more at [] = Ok tt
no_more at (_ ∷ _) = Err (fault.Header at)

-- a number that counts as the greatest of 32 bits where it is above
abbrev pub capped : ℕ → ℕ
capped n = min n 4294967295

-- a header, unless its shape has a fault
abbrev pub header_or : Option ShapeFault → Header → Result Header ScriptFault
header_or None header = Ok header
header_or (Some found) header = Err (fault.Shape found)

-- the four numbers are a shape
unfoldable pub shaped : ℕ → ℕ → ℕ → ℕ → ℕ → Result Header ScriptFault
shaped passes leaves levels rows opening = header_or (first_fault passes leaves levels rows) (record { passes = passes; leaves = leaves; levels = levels; rows = rows; opening = opening })

-- `funnel` and five numbers, of which four make a shape
unfoldable pub header_of : ℕ → List (List ℕ) → Result Header ScriptFault
header_of at first = do
  all ← after_funnel at first
  passes ← next_number at all
  leaves ← next_number at passes.1
  levels ← next_number at leaves.1
  rows ← next_number at levels.1
  opening ← next_number at rows.1
  _ ← no_more at opening.1
  shaped (capped passes.0) (capped leaves.0) (capped levels.0) (capped rows.0) opening.0

-- the first line with words, its number, and the lines after it
pub record FirstLine : Type 0 where
  pub at : ℕ
  pub line : List ℕ
  pub rest : List (List ℕ)

-- whether there is any
abbrev pub is_any : List (List ℕ) → Bool
is_any [] = false
is_any (_ ∷ _) = true

abbrev pub has_words : List ℕ → Bool
has_words line = is_any (words line)

-- the first of these lines that has words, where the first of them has this number
unfoldable pub first_with_words : ℕ → List (List ℕ) → Option FirstLine
first_with_words at [] = None
first_with_words at (line ∷ rest) =
    if has_words line then Some (record { at = at; line = line; rest = rest }) else first_with_words (at + 1) rest

-- what a script says
pub record Content : Type 0 where
  pub header : Header
  pub lines : List ScriptLine

-- what a script says that begins with this line, which has words; beyond the limit the first line past it is at fault
unfoldable pub script_from : Option FirstLine → Result Content ScriptFault
script_from None = Err (fault.Header 1)
script_from (Some first) = do
  _ ← (if nat_lt (MOST_LINES + 1) first.at then Err (fault.TooMany (MOST_LINES + 1)) else Ok (tt {0}))
  header ← header_of first.at (words first.line)
  _ ← within_limit first.at
  more ← lines_of header.passes (first.at + 1) header.opening first.rest
  Ok (record { header = header; lines = more })

-- what some bytes say as a script
abbrev pub script_of : List ℕ → Result Content ScriptFault
script_of bytes = script_from (first_with_words 1 (lines bytes))

-- the numbers of a shape and an opening
abbrev pub header_in : Shape → ℕ → Header
header_in shape opening = record { passes = shape.passes; leaves = shape.leaves; levels = shape.levels; rows = shape.rows; opening = opening }

-- what a script in memory says
abbrev pub content : Script → Content
content script = record { header = header_in script.shape script.opening; lines = script.lines }

-- a fault is the one of a reading, unless memory ran out
abbrev pub Fails : {Y : Type 0} → ScriptFault → Result Y ScriptFault → Type 0
Fails fault.NoMemory read = Unit {0}
Fails found read = read ≡ Err found

-- what was answered, seen in this way, is what a reading gives, unless memory ran out
abbrev pub Gives : {X Y : Type 0} → (X → Y) → Result X ScriptFault → Result Y ScriptFault → Type 0
Gives view (Ok x) read = read ≡ Ok (view x)
Gives view (Err found) read = Fails found read
