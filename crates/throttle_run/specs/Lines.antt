-- What a text says as takes, or its first fault: that of the least line, and there the first of the
-- order in which the faults are declared.
use Rattle.std.specs.Prelude.{ℕ, ◌+◌, ◌^◌, ◌<◌, ◌≤◌, ◌≡◌, nat_lt, if◌then◌else◌, List, [], ◌∷◌, ◌++◌, Option, Some, None, option_to_list, Result, Ok, Err}
use Rattle.std.specs.List.{All, sum_by}
use Rattle.text_lines.specs.Steps.{◌>>=◌, required}
use Rattle.text_lines.specs.Text.{lines, words, number}
use Rattle.throttle_run.specs.declared.faults.ThrottleFault.{ThrottleFault}
use Rattle.throttle_run.specs.declared.faults.ThrottleFault.TheVariants as fault
use Rattle.throttle_run.specs.declared.lines.ThrottleLine.{ThrottleLine}
use Rattle.throttle_run.specs.declared.reading.TheConstants.{MOST_LINES, MOST_TOTAL}

-- the tokens that a line may move: its amount, and a refill of at most the burst
abbrev pub cost : ℕ → ThrottleLine → ℕ
cost burst line = line.amount + burst

-- lines that a bucket can serve: of workers that are there, of at least 1 each, and the burst and all
-- costs stay below 2^63
pub record AreSound (workers burst : ℕ) (lines : List ThrottleLine) : Type 0 where
  pub workers_are : All (λ line. line.worker < workers) lines
  pub amounts : All (λ line. 1 ≤ line.amount) lines
  pub total : burst + sum_by (cost burst) lines < 2 ^ 63

-- a worker: a number below `workers`
unfoldable pub worker_of : ℕ → ℕ → List ℕ → Result ℕ ThrottleFault
worker_of workers at word = do
  n ← required (fault.Worker at) (number word)
  if nat_lt n workers then Ok n else Err (fault.Worker at)

-- a moment: any number
unfoldable pub moment_of : ℕ → List ℕ → Result ℕ ThrottleFault
moment_of at word = required (fault.Amount at) (number word)

-- an amount: a number of at least 1
unfoldable pub amount_of : ℕ → List ℕ → Result ℕ ThrottleFault
amount_of at word = do
  n ← required (fault.Amount at) (number word)
  if nat_lt 0 n then Ok n else Err (fault.Amount at)

-- a take by its three words
unfoldable pub take_of : ℕ → ℕ → List ℕ → List ℕ → List ℕ → Result ThrottleLine ThrottleFault
take_of workers at worker now amount = do
  who ← worker_of workers at worker
  moment ← moment_of at now
  tokens ← amount_of at amount
  Ok (record { at = at; worker = who; now = moment; amount = tokens })

-- a line by its words; one without words says nothing
unfoldable pub line_of : ℕ → ℕ → List (List ℕ) → Result (Option ThrottleLine) ThrottleFault
line_of workers at [] = Ok None
line_of workers at (worker ∷ now ∷ amount ∷ []) = take_of workers at worker now amount >>= λ line. Ok (Some line)
line_of workers at _ = Err (fault.Fields at)

-- a line within the limit
unfoldable pub within_limit : ℕ → Result (Unit {0}) ThrottleFault
within_limit at = if nat_lt MOST_LINES at then Err (fault.TooMany at) else Ok tt

-- what the burst and all costs come to with a further line
unfoldable pub total_with : ℕ → ℕ → ℕ → Option ThrottleLine → Result ℕ ThrottleFault
total_with burst at total None = Ok total
total_with burst at total (Some line) = if nat_lt MOST_TOTAL (total + cost burst line) then Err (fault.Total at) else Ok (total + cost burst line)

-- the lines of a text from this number on, with what the burst and all costs have come to
unfoldable pub lines_of : ℕ → ℕ → ℕ → ℕ → List (List ℕ) → Result (List ThrottleLine) ThrottleFault
lines_of workers burst at total [] = Ok []
lines_of workers burst at total (line ∷ rest) = do
  read ← line_of workers at (words line)
  _ ← within_limit at
  sum ← total_with burst at total read
  more ← lines_of workers burst (at + 1) sum rest
  Ok (option_to_list read ++ more)

-- what bytes say as lines of takes, or their first fault
abbrev pub throttle_of : ℕ → ℕ → List ℕ → Result (List ThrottleLine) ThrottleFault
throttle_of workers burst bytes = lines_of workers burst 1 burst (lines bytes)

-- a fault is the one of a reading, unless memory ran out
abbrev pub Fails : {Y : Type 0} → ThrottleFault → Result Y ThrottleFault → Type 0
Fails fault.NoMemory read = Unit {0}
Fails found read = read ≡ Err found

-- what was answered, seen in this way, is what a reading gives, unless memory ran out
abbrev pub Gives : {X Y : Type 0} → (X → Y) → Result X ThrottleFault → Result Y ThrottleFault → Type 0
Gives view (Ok x) read = read ≡ Ok (view x)
Gives view (Err found) read = Fails found read
