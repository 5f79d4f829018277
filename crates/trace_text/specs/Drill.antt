-- The trace of a drill: a seed, so many rows and so many workers give it.
use Rattle.std.specs.Prelude.{ℕ, ◌+◌, ◌*◌, ◌%◌, ◌==◌, if◌then◌else◌, List, [], ◌∷◌, map, codes}
use Rattle.std.specs.List.{range_with_len, sum_by}
use Rattle.trace_text.specs.Trace.{Content}
use Rattle.text_lines.specs.declared.pieces.TheConstants.{MOST_NUMBER}
use Rattle.trace_text.specs.declared.traces.Op.{Op}
use Rattle.trace_text.specs.declared.traces.Op.TheVariants.{Add, Take, Direct, Read}
use Rattle.trace_text.specs.declared.traces.Row.{Row}

-- every third row takes, and the others add
abbrev pub drill_op : ℕ → Op
drill_op i = if i % 3 == 2 then Take else Add

-- the amounts go round by sevens, from 1 to 97
abbrev pub drill_amount : ℕ → ℕ → ℕ
drill_amount seed i = (seed + 7 * i) % 97 + 1

-- a row by its number: the workers take turns
abbrev pub drill_row : ℕ → ℕ → ℕ → Row
drill_row seed workers i = record { at = i + 2; worker = i % workers; op = drill_op i; tenant = 0; amount = drill_amount seed i }

-- so many rows
abbrev pub drill_rows : ℕ → ℕ → ℕ → List Row
drill_rows seed rows workers = map (drill_row seed workers) (range_with_len 0 rows)

-- what a row takes
abbrev pub taken : Op → ℕ → ℕ
taken Take amount = amount
taken Add amount = 0
taken Direct amount = 0
taken Read amount = 0

-- what all rows take
abbrev pub total_taken : List Row → ℕ
total_taken rows = sum_by (λ row. taken row.op row.amount) rows

-- one tenant, whose opening is all that is taken, and its rows
abbrev pub drill : ℕ → ℕ → ℕ → Content
drill seed rows workers =
    record {
      tenants = record { name = codes "drill"; opening = total_taken (drill_rows seed rows workers); cap = MOST_NUMBER } ∷ [];
      rows = drill_rows seed rows workers;
      cuts = [];
    }
