-- The records that a reader of records has left.
use Rattle.std.specs.Prelude.{◌≡◌, ◌+◌, ℕ, List, [], length, Option, Some, None, false}
use Rattle.std.specs.Borrow.{Bor}
use Rattle.csv.specs.Reading.{Ready, default_config, has_failed, records_from, source_of}
use Rattle.csv.specs.declared.reader.Reader.{Reader}
use Rattle.csv.specs.declared.reader.Trim.TheVariants as trim
use Rattle.csv.specs.declared.parser.State.{State}
use Rattle.trace_text.specs.declared.records.Records.TheInside.{Inside}

-- the records of a text from a state
abbrev pub records_in : State → Option (List ℕ) → List (List (List ℕ))
records_in s None = []
records_in s (Some text) = records_from default_config (length text + 1) s text

-- the records that are left
abbrev pub records_left : Inside → List (List (List ℕ))
records_left r = records_in r.reader.state (source_of (λ s. Some s.now) r.reader)

-- a reader that takes records as they stand, with no header of their own
abbrev pub ReadsPlainly : Reader (Bor (List ℕ)) → Type 0
ReadsPlainly reader = has_failed reader ≡ false → (reader.trim ≡ trim.None) × Ready reader × (reader.config ≡ default_config)
