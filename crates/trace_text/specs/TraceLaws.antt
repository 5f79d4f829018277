-- What holds of the reading of every trace.
use Rattle.std.specs.Prelude.{◌≡◌, ℕ, ◌+◌, ◌-◌, ◌⊎◌, min, List, [], ◌∷◌, ◌++◌, length, take, drop, Some, None, Result, Ok, Err}
use Rattle.trace_text.specs.Fields.{format_of}
use Rattle.trace_text.specs.SoundTrace.{additions, amounts}
use Rattle.text_lines.specs.Steps.{◌>>=◌}
use Rattle.trace_text.specs.Trace.{Content, State, content_of, read_all, records_after, start}
use Rattle.trace_text.specs.TraceFaults.{record_fault}
use Rattle.trace_text.specs.TraceGrammar.{IsTrace}
use Rattle.trace_text.specs.declared.fields.Format.{Format}
use Rattle.trace_text.specs.declared.tenants.Account.{Account}
use Rattle.trace_text.specs.declared.traces.Cut.{Cut}
use Rattle.trace_text.specs.declared.traces.Row.{Row}
use Rattle.trace_text.specs.declared.traces.Tenant.{Tenant}
use Rattle.trace_text.specs.declared.traces.TraceFault.{TraceFault}
use Rattle.trace_text.specs.declared.traces.TraceFault.TheVariants as fault

-- what some records say as a trace
abbrev pub said_by : ℕ → List (List (List ℕ)) → Result Content TraceFault
said_by workers records = read_all workers records >>= λ state. Ok (content_of state)

-- what is read is in the grammar
abbrev pub TracesAreInGrammar : Type 0
TracesAreInGrammar = (workers : ℕ) (records : List (List (List ℕ))) (trace : Content) → said_by workers records ≡ Ok trace → IsTrace workers records trace

-- what is in the grammar is read: so no records say two traces, and none that say one are at fault
abbrev pub GrammarIsRead : Type 0
GrammarIsRead = (workers : ℕ) (records : List (List (List ℕ))) (trace : Content) → IsTrace workers records trace → said_by workers records ≡ Ok trace

-- the rows after the last cut, of rows before which so many stand
abbrev pub last_rows : ℕ → List Row → List Cut → List Row
last_rows before rows [] = rows
last_rows before rows (cut ∷ cuts) = last_rows cut.rows (drop (cut.rows - before) rows) cuts

-- a tenant's bound at the last cut: at each cut it is the bound before with all that the segment can add, and at most the cap
abbrev pub last_bound : ℕ → ℕ → ℕ → ℕ → List Row → List Cut → ℕ
last_bound tenant cap bound before rows [] = bound
last_bound tenant cap bound before rows (cut ∷ cuts) =
    last_bound tenant cap (min cap (bound + additions tenant (take (cut.rows - before) rows))) cut.rows (drop (cut.rows - before) rows) cuts

-- the account of the tenant at a place: its bound at the last cut, with all that the rows since can add, and with all their amounts
abbrev pub counted : ℕ → Tenant → List Row → List Cut → Account
counted place tenant rows cuts =
    record {
      tenant = tenant;
      reach = last_bound place tenant.cap tenant.opening 0 rows cuts + additions place (last_rows 0 rows cuts);
      used = last_bound place tenant.cap tenant.opening 0 rows cuts + amounts place (last_rows 0 rows cuts);
    }

-- the accounts of the tenants from a place on
abbrev pub all_counted : ℕ → List Tenant → List Row → List Cut → List Account
all_counted place [] rows cuts = []
all_counted place (tenant ∷ tenants) rows cuts = counted place tenant rows cuts ∷ all_counted (place + 1) tenants rows cuts

-- what is known after what was said
abbrev pub known : Content → State
known trace = record { accounts = all_counted 0 trace.tenants trace.rows trace.cuts; rows = trace.rows; cuts = trace.cuts }

-- what is known after records that are read follows from what they say alone
abbrev pub StateIsKnown : Type 0
StateIsKnown = (format : Format) (workers : ℕ) (records : List (List (List ℕ))) (state : State) → records_after format workers 1 records start ≡ Ok state → state ≡ known (content_of state)

-- no first record names a format
abbrev pub HasNoFormat : List (List (List ℕ)) → Type 0
HasNoFormat [] = Unit {0}
HasNoFormat (first ∷ rest) = format_of first ≡ None

-- a record with its first fault, and the records before it, which say a trace
pub record StopsAt (workers : ℕ) (records : List (List (List ℕ))) (found : TraceFault) : Type 0 where
  pub format : Format
  pub first : List (List ℕ)
  pub front : List (List (List ℕ))
  pub row : List (List ℕ)
  pub rest : List (List (List ℕ))
  pub before : Content
  pub whole : records ≡ first ∷ (front ++ row ∷ rest)
  pub header : format_of first ≡ Some format
  pub said : IsTrace workers (first ∷ front) before
  pub at_fault : record_fault format workers (1 + length front) row (known before) ≡ Some found

-- the first fault of the records of a trace: no first record names a format, or a record has it after those before
abbrev pub IsFirstFault : ℕ → List (List (List ℕ)) → TraceFault → Type 0
IsFirstFault workers records found = (HasNoFormat records × (found ≡ fault.Header 0)) ⊎ StopsAt workers records found

-- a trace is refused for its first fault, unless memory ran out
abbrev pub IsRefusedFor : ℕ → List (List (List ℕ)) → TraceFault → Type 0
IsRefusedFor workers records fault.NoMemory = Unit {0}
IsRefusedFor workers records found = IsFirstFault workers records found

-- records that are refused are so for their first fault
abbrev pub RefusedForFirst : Type 0
RefusedForFirst = (workers : ℕ) (records : List (List (List ℕ))) (found : TraceFault) → said_by workers records ≡ Err found → IsFirstFault workers records found

-- records that have a first fault are refused for it
abbrev pub FirstIsRefused : Type 0
FirstIsRefused = (workers : ℕ) (records : List (List (List ℕ))) (found : TraceFault) → IsFirstFault workers records found → said_by workers records ≡ Err found
