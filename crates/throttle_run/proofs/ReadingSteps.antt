-- Lines that are read one after the other.
use Rattle.std.proofs.Common.{◌≡◌, ℕ, ◌+◌, List, [], ◌∷◌, ◌++◌, Option, Result, Ok, Err, refl, ap, ◌∙◌, append_assoc, append-nil}
use Rattle.std.specs.Prelude.{option_to_list}
use Rattle.text_lines.specs.Steps.{◌>>=◌}
use Rattle.text_lines.specs.Text.{words}
use Rattle.throttle_run.specs.Lines.{Fails, line_of, lines_of, total_with, within_limit}
use Rattle.throttle_run.specs.declared.faults.ThrottleFault.{ThrottleFault}
use Rattle.throttle_run.specs.declared.faults.ThrottleFault.TheVariants as fault
use Rattle.throttle_run.specs.declared.lines.ThrottleLine.{ThrottleLine}

-- lines that were read, before what a reading gives
abbrev pub after : List ThrottleLine → Result (List ThrottleLine) ThrottleFault → Result (List ThrottleLine) ThrottleFault
after front read = read >>= λ more. Ok (front ++ more)

pub after-none : (read : Result (List ThrottleLine) ThrottleFault) → after [] read ≡ read
after-none (Ok more) = refl
after-none (Err found) = refl

after-more : (front line : List ThrottleLine) (rest : Result (List ThrottleLine) ThrottleFault)
    → after (front ++ line) rest ≡ after front (rest >>= λ more. Ok (line ++ more))
after-more front line (Ok more) = ap (λ (l : List ThrottleLine). Ok l) (append_assoc front line more)
after-more front line (Err found) = refl

-- a line that was read
pub lines_of-more : (workers burst at total : ℕ) (line : List ℕ) (rest : List (List ℕ)) (front : List ThrottleLine) (read : Option ThrottleLine) (sum : ℕ)
    → line_of workers at (words line) ≡ Ok read → within_limit at ≡ Ok tt → total_with burst at total read ≡ Ok sum
    → after (front ++ option_to_list read) (lines_of workers burst (at + 1) sum rest) ≡ after front (lines_of workers burst at total (line ∷ rest))
unfolding lines_of
lines_of-more workers burst at total line rest front read sum was limit counted =
    after-more front (option_to_list read) (lines_of workers burst (at + 1) sum rest) ∙ rw (was, limit, counted) refl

-- a line that was refused: by its words, as past the limit, or for the total
pub lines_of-refused : (workers burst at total : ℕ) (line : List ℕ) (rest : List (List ℕ)) (front : List ThrottleLine) (found : ThrottleFault)
    → line_of workers at (words line) ≡ Err found → after front (lines_of workers burst at total (line ∷ rest)) ≡ Err found
unfolding lines_of
lines_of-refused workers burst at total line rest front found was = rw was refl

pub lines_of-past : (workers burst at total : ℕ) (line : List ℕ) (rest : List (List ℕ)) (front : List ThrottleLine) (read : Option ThrottleLine) (found : ThrottleFault)
    → line_of workers at (words line) ≡ Ok read → within_limit at ≡ Err found → after front (lines_of workers burst at total (line ∷ rest)) ≡ Err found
unfolding lines_of
lines_of-past workers burst at total line rest front read found was limit = rw (was, limit) refl

pub lines_of-above : (workers burst at total : ℕ) (line : List ℕ) (rest : List (List ℕ)) (front : List ThrottleLine) (read : Option ThrottleLine) (found : ThrottleFault)
    → line_of workers at (words line) ≡ Ok read → within_limit at ≡ Ok tt → total_with burst at total read ≡ Err found
    → after front (lines_of workers burst at total (line ∷ rest)) ≡ Err found
unfolding lines_of
lines_of-above workers burst at total line rest front read found was limit counted = rw (was, limit, counted) refl

-- no further line
pub lines_of-none : (workers burst at total : ℕ) (front : List ThrottleLine) → after front (lines_of workers burst at total []) ≡ Ok front
unfolding lines_of
lines_of-none workers burst at total front = ap (λ (l : List ThrottleLine). Ok l) (append-nil front)

-- a fault that is the one of a reading
pub Fails-from : {Y : Type 0} (found : ThrottleFault) (read : Result Y ThrottleFault) → read ≡ Err found → Fails found read
Fails-from fault.NoMemory read is = tt
Fails-from (fault.Fields at) read is = is
Fails-from (fault.Worker at) read is = is
Fails-from (fault.Amount at) read is = is
Fails-from (fault.TooMany at) read is = is
Fails-from (fault.Total at) read is = is

-- a fault of one reading that is that of another
pub Fails-through : {X Y : Type 0} (found : ThrottleFault) (part : Result X ThrottleFault) (read : Result Y ThrottleFault)
    → (part ≡ Err found → read ≡ Err found) → Fails found part → Fails found read
Fails-through fault.NoMemory part read to is = tt
Fails-through (fault.Fields at) part read to is = to is
Fails-through (fault.Worker at) part read to is = to is
Fails-through (fault.Amount at) part read to is = to is
Fails-through (fault.TooMany at) part read to is = to is
Fails-through (fault.Total at) part read to is = to is
