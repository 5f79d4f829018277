-- The rows of a trace as its cuts part them, and the calls that they ask for.
--     segments rows cuts      the rows of each segment
--     kind_of op, goes_through op      what an op does with the integer, and whether it may go through the funnel
--     rows_of worker tenant rows      the rows of a worker at a tenant
--     calls_from n rows, call_after earlier row      the calls of rows, numbered from n on, and that of a row behind others
use Rattle.std.specs.Prelude.{ℕ, suc, ◌-◌, ◌&&◌, ◌==◌, Bool, true, false, List, [], ◌∷◌, filter, length, take, drop}
use Rattle.fn_model.specs.declared.Call.{Call}
use Rattle.fn_model.specs.declared.Kind.{Kind}
use Rattle.fn_model.specs.declared.Kind.TheVariants as kind
use Rattle.trace_text.specs.declared.traces.Cut.{Cut}
use Rattle.trace_text.specs.declared.traces.Op.{Op}
use Rattle.trace_text.specs.declared.traces.Op.TheVariants.{Add, Take, Direct, Read}
use Rattle.trace_text.specs.declared.traces.Row.{Row}

-- the rows of each segment, where so many rows stand before these
abbrev pub segments_from : ℕ → List Row → List Cut → List (List Row)
segments_from before rows [] = rows ∷ []
segments_from before rows (cut ∷ cuts) = take (cut.rows - before) rows ∷ segments_from cut.rows (drop (cut.rows - before) rows) cuts

-- the rows of each segment
abbrev pub segments : List Row → List Cut → List (List Row)
segments rows cuts = segments_from 0 rows cuts

-- what an op does with the integer
abbrev pub kind_of : Op → Kind
kind_of Add = kind.Add
kind_of Direct = kind.Add
kind_of Take = kind.Sub
kind_of Read = kind.Read

-- whether an op may go through the funnel
abbrev pub goes_through : Op → Bool
goes_through Add = true
goes_through Take = true
goes_through Direct = false
goes_through Read = false

-- whether a row is of this worker and this tenant
abbrev pub is_of : ℕ → ℕ → Row → Bool
is_of worker tenant row = (row.worker == worker) && (row.tenant == tenant)

-- the rows of a worker at a tenant
abbrev pub rows_of : ℕ → ℕ → List Row → List Row
rows_of worker tenant rows = filter (is_of worker tenant) rows

-- a row's call, of this number
abbrev pub call_of : ℕ → Row → Call
call_of n row = record { pass = row.worker; number = n; kind = kind_of row.op; amount = row.amount }

-- the calls of rows, numbered from n on
abbrev pub calls_from : ℕ → List Row → List Call
calls_from n [] = []
calls_from n (row ∷ rows) = call_of n row ∷ calls_from (suc n) rows

-- a row's call, numbered by the rows of its worker at its tenant among those before it
abbrev pub call_after : List Row → Row → Call
call_after earlier row = call_of (length (rows_of row.worker row.tenant earlier)) row
