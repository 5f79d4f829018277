-- Lines that are read one after the other.
use Rattle.std.proofs.Common.{◌≡◌, ℕ, ◌+◌, true, false, List, [], ◌∷◌, ◌++◌, Option, Some, None, Result, Ok, Err, refl, ap, ◌∙◌, append_assoc, append-nil}
use Rattle.std.specs.Prelude.{option_to_list}
use Rattle.script_text.specs.Script.{first_with_words, line_of, lines_of, total_with, within_limit, is_any, Fails}
use Rattle.text_lines.specs.Steps.{◌>>=◌}
use Rattle.text_lines.specs.Text.{words}
use Rattle.script_text.specs.declared.scripts.ScriptFault.{ScriptFault}
use Rattle.script_text.specs.declared.scripts.ScriptFault.TheVariants as fault
use Rattle.script_text.specs.declared.scripts.ScriptLine.{ScriptLine}

-- lines that were read, before what a reading gives
abbrev pub after : List ScriptLine → Result (List ScriptLine) ScriptFault → Result (List ScriptLine) ScriptFault
after front read = read >>= λ more. Ok (front ++ more)

after-more : (front : List ScriptLine) (line : List ScriptLine) (rest : Result (List ScriptLine) ScriptFault)
    → after (front ++ line) rest ≡ after front (rest >>= λ more. Ok (line ++ more))
after-more front line (Ok more) = ap (λ (l : List ScriptLine). Ok l) (append_assoc front line more)
after-more front line (Err found) = refl

-- a line that was read
pub lines_of-more : (passes at total : ℕ) (line : List ℕ) (rest : List (List ℕ)) (front : List ScriptLine) (read : Option ScriptLine) (sum : ℕ)
    → line_of passes at (words line) ≡ Ok read → within_limit at ≡ Ok tt → total_with at total read ≡ Ok sum
    → after (front ++ option_to_list read) (lines_of passes (at + 1) sum rest) ≡ after front (lines_of passes at total (line ∷ rest))
unfolding lines_of
lines_of-more passes at total line rest front read sum was limit counted =
    after-more front (option_to_list read) (lines_of passes (at + 1) sum rest) ∙ rw (was, limit, counted) refl

-- a line that was refused
pub lines_of-refused : (passes at total : ℕ) (line : List ℕ) (rest : List (List ℕ)) (front : List ScriptLine) (found : ScriptFault)
    → line_of passes at (words line) ≡ Err found → after front (lines_of passes at total (line ∷ rest)) ≡ Err found
unfolding lines_of
lines_of-refused passes at total line rest front found was = rw was refl

pub lines_of-past : (passes at total : ℕ) (line : List ℕ) (rest : List (List ℕ)) (front : List ScriptLine) (read : Option ScriptLine) (found : ScriptFault)
    → line_of passes at (words line) ≡ Ok read → within_limit at ≡ Err found → after front (lines_of passes at total (line ∷ rest)) ≡ Err found
unfolding lines_of
lines_of-past passes at total line rest front read found was limit = rw (was, limit) refl

pub lines_of-above : (passes at total : ℕ) (line : List ℕ) (rest : List (List ℕ)) (front : List ScriptLine) (read : Option ScriptLine) (found : ScriptFault)
    → line_of passes at (words line) ≡ Ok read → within_limit at ≡ Ok tt → total_with at total read ≡ Err found
    → after front (lines_of passes at total (line ∷ rest)) ≡ Err found
unfolding lines_of
lines_of-above passes at total line rest front read found was limit counted = rw (was, limit, counted) refl

-- no further line
pub lines_of-none : (passes at total : ℕ) (front : List ScriptLine) → after front (lines_of passes at total []) ≡ Ok front
unfolding lines_of
lines_of-none passes at total front = ap (λ (l : List ScriptLine). Ok l) (append-nil front)

-- a fault that is the one of a reading
pub Fails-from : {Y : Type 0} (found : ScriptFault) (read : Result Y ScriptFault) → read ≡ Err found → Fails found read
Fails-from fault.NoMemory read is = tt
Fails-from (fault.Header at) read is = is
Fails-from (fault.Shape why) read is = is
Fails-from (fault.Fields at) read is = is
Fails-from (fault.Pass at) read is = is
Fails-from (fault.Op at) read is = is
Fails-from (fault.Amount at) read is = is
Fails-from (fault.TooMany at) read is = is
Fails-from (fault.Total at) read is = is

-- a fault of one reading that is that of another
pub Fails-through : {X Y : Type 0} (found : ScriptFault) (part : Result X ScriptFault) (read : Result Y ScriptFault)
    → (part ≡ Err found → read ≡ Err found) → Fails found part → Fails found read
Fails-through fault.NoMemory part read to is = tt
Fails-through (fault.Header at) part read to is = to is
Fails-through (fault.Shape why) part read to is = to is
Fails-through (fault.Fields at) part read to is = to is
Fails-through (fault.Pass at) part read to is = to is
Fails-through (fault.Op at) part read to is = to is
Fails-through (fault.Amount at) part read to is = to is
Fails-through (fault.TooMany at) part read to is = to is
Fails-through (fault.Total at) part read to is = to is

-- a line with words, and one without
pub first_with_words-found : (at : ℕ) (line : List ℕ) (rest : List (List ℕ)) → is_any (words line) ≡ true
    → first_with_words at (line ∷ rest) ≡ Some (record { at = at; line = line; rest = rest })
unfolding first_with_words
first_with_words-found at line rest is = rw is refl

pub first_with_words-later : (at : ℕ) (line : List ℕ) (rest : List (List ℕ)) → is_any (words line) ≡ false
    → first_with_words at (line ∷ rest) ≡ first_with_words (at + 1) rest
unfolding first_with_words
first_with_words-later at line rest is = rw is refl

pub first_with_words-none : (at : ℕ) → first_with_words at [] ≡ None
unfolding first_with_words
first_with_words-none at = refl
