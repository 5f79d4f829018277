-- What the records of a trace say, one after the other, or the first fault: that of the least
-- record, and there the first of the order in which the faults are declared, where `NoMemory` has no place.
-- `State` is what is known after some records, `record_after` what one more makes of it.
use Rattle.std.specs.Prelude.{◌≡◌, ℕ, ◌+◌, ◌&&◌, min, nat_le, nat_lt, Bool, true, ◌==◌, if◌then◌else◌, List, [], ◌∷◌, ◌++◌, length, map, slice_index_or, slice_set, Option, Some, None, Result, Ok, Err}
use Rattle.std.specs.List.{position}
use Rattle.std.specs.Str.{bytes_eq}
use Rattle.trace_text.specs.Fields.{action_of, amount_of, cap_of, field, format_of, is_tenant, width, worker_of}
use Rattle.trace_text.specs.Records.{records_of}
use Rattle.text_lines.specs.Steps.{◌>>=◌, required}
use Rattle.trace_text.specs.declared.fields.Action.{Action}
use Rattle.trace_text.specs.declared.fields.Action.TheVariants.{Open, Settle, Call}
use Rattle.trace_text.specs.declared.fields.Format.{Format}
use Rattle.text_lines.specs.declared.pieces.TheConstants.{MOST_NUMBER}
use Rattle.trace_text.specs.declared.tenants.Account.{Account}
use Rattle.trace_text.specs.declared.tenants.TheConstants.{MOST_TENANTS}
use Rattle.trace_text.specs.declared.tracing.Ledger.{Ledger}
use Rattle.trace_text.specs.declared.tracing.TheConstants.{MOST_CUTS, MOST_RECORDS}
use Rattle.trace_text.specs.declared.traces.Cut.{Cut}
use Rattle.trace_text.specs.declared.traces.Op.{Op}
use Rattle.trace_text.specs.declared.traces.Op.TheVariants.{Add, Take, Direct, Read}
use Rattle.trace_text.specs.declared.traces.Row.{Row}
use Rattle.trace_text.specs.declared.traces.Tenant.{Tenant}
use Rattle.trace_text.specs.declared.traces.Trace.{Trace}
use Rattle.trace_text.specs.declared.traces.TraceFault.{TraceFault}
use Rattle.trace_text.specs.declared.traces.TraceFault.TheVariants as fault

-- what is known after some records: the tenants with their bounds, the rows and the cuts
pub record State : Type 0 where
  pub accounts : List Account
  pub rows : List Row
  pub cuts : List Cut

-- what is known before the first record
abbrev pub start : State
start = record { accounts = []; rows = []; cuts = [] }

-- a tenant that is opened: the bound of its value is the opening
abbrev pub account_of : List ℕ → ℕ → ℕ → Account
account_of name opening cap = record { tenant = record { name = name; opening = opening; cap = cap }; reach = opening; used = opening }

-- no tenant's account
abbrev pub no_account : Account
no_account = account_of [] 0 0

-- the account at a place
abbrev pub account_at : List Account → ℕ → Account
account_at accounts place = slice_index_or accounts place no_account

-- the place of the tenant with a name
abbrev pub place_of : List ℕ → List Account → Option ℕ
place_of name accounts = position (λ account. bytes_eq account.tenant.name name) accounts

-- what an op can add
abbrev pub added : Op → ℕ → ℕ
added Add amount = amount
added Direct amount = amount
added Take amount = 0
added Read amount = 0

-- an account after an op: its bound with all that this segment adds, and with all amounts of this segment
abbrev pub account_after : Op → ℕ → Account → Account
account_after op amount account = record { tenant = account.tenant; reach = account.reach + added op amount; used = account.used + amount }

-- an account in the next segment: its bound is what it can have come to, and at most its cap
abbrev pub account_settled : Account → Account
account_settled account = record { tenant = account.tenant; reach = min account.tenant.cap account.reach; used = min account.tenant.cap account.reach }

-- neither a record nor what it makes room for is past its limit
unfoldable pub within : ℕ → Bool → Result (Unit {0}) TraceFault
within at room = if nat_le at MOST_RECORDS && room then Ok tt else Err (fault.TooMany at)

-- no tenant has this name yet
unfoldable pub unnamed : ℕ → Option ℕ → Result (Unit {0}) TraceFault
unnamed at None = Ok tt
unnamed at (Some place) = Err (fault.Again at)

-- a tenant is opened
unfoldable pub opened : Format → ℕ → List ℕ → ℕ → List ℕ → State → Result State TraceFault
opened format at name opening word state = do
  _ ← unnamed at (place_of name state.accounts)
  _ ← within at (nat_lt (length state.accounts) MOST_TENANTS)
  cap ← required (fault.Cap at) (cap_of format Open opening word)
  Ok (record { accounts = state.accounts ++ account_of name opening cap ∷ []; rows = state.rows; cuts = state.cuts })

-- a segment ends
unfoldable pub settled : Format → ℕ → List ℕ → State → Result State TraceFault
settled format at word state = do
  _ ← within at (nat_lt (length state.cuts) MOST_CUTS)
  _ ← required (fault.Cap at) (cap_of format Settle 0 word)
  Ok (record { accounts = map account_settled state.accounts; rows = state.rows; cuts = state.cuts ++ record { at = at; rows = length state.rows } ∷ [] })

-- the account after an op, where the bound with all amounts of this segment stays below 2^63
unfoldable pub spent : ℕ → Op → ℕ → Account → Result Account TraceFault
spent at op amount account = if nat_lt MOST_NUMBER (account.used + amount) then Err (fault.Total at) else Ok (account_after op amount account)

-- a worker calls
unfoldable pub called : Format → ℕ → ℕ → Op → List ℕ → ℕ → List ℕ → State → Result State TraceFault
called format at worker op name amount word state = do
  place ← required (fault.Unknown at) (place_of name state.accounts)
  _ ← within at true
  account ← spent at op amount (account_at state.accounts place)
  _ ← required (fault.Cap at) (cap_of format (Call op) amount word)
  Ok (record { accounts = slice_set state.accounts place account; rows = state.rows ++ record { at = at; worker = worker; op = op; tenant = place; amount = amount } ∷ []; cuts = state.cuts })

-- an action is done
unfoldable pub acted : Format → ℕ → ℕ → Action → ℕ → List (List ℕ) → State → Result State TraceFault
acted format at worker Open amount row state = opened format at (field row 2) amount (field row 4) state
acted format at worker Settle amount row state = settled format at (field row 4) state
acted format at worker (Call op) amount row state = called format at worker op (field row 2) amount (field row 4) state

-- a field is as it has to be
abbrev pub check : TraceFault → Bool → Result (Unit {0}) TraceFault
check found good = if good then Ok tt else Err found

-- what is known after one more record, which has this number
unfoldable pub record_after : Format → ℕ → ℕ → List (List ℕ) → State → Result State TraceFault
record_after format workers at row state = do
  _ ← check (fault.Fields at) (length row == width format)
  worker ← required (fault.Worker at) (worker_of workers (field row 0))
  action ← required (fault.Op at) (action_of format (field row 1))
  _ ← check (fault.Tenant at) (is_tenant action (field row 2))
  amount ← required (fault.Amount at) (amount_of action (field row 3))
  acted format at worker action amount row state

-- what is known after these records, the first of which has this number
unfoldable pub records_after : Format → ℕ → ℕ → List (List (List ℕ)) → State → Result State TraceFault
records_after format workers at [] state = Ok state
records_after format workers at (row ∷ rest) state = record_after format workers at row state >>= records_after format workers (at + 1) rest

-- what is known after all records: the first names the format, and the others are numbered from 1
unfoldable pub read_all : ℕ → List (List (List ℕ)) → Result State TraceFault
read_all workers [] = Err (fault.Header 0)
read_all workers (first ∷ rest) = required (fault.Header 0) (format_of first) >>= λ format. records_after format workers 1 rest start

-- what a trace says
pub record Content : Type 0 where
  pub tenants : List Tenant
  pub rows : List Row
  pub cuts : List Cut

-- what a trace in memory says
abbrev pub content : Trace → Content
content trace = record { tenants = trace.tenants.items; rows = trace.rows.items; cuts = trace.cuts.items }

-- the tenants, rows and cuts of what is known
abbrev pub content_of : State → Content
content_of state = record { tenants = map (λ account. account.tenant) state.accounts; rows = state.rows; cuts = state.cuts }

-- what some bytes say as a trace
abbrev pub trace_of : ℕ → List ℕ → Result Content TraceFault
trace_of workers bytes = read_all workers (records_of bytes) >>= λ state. Ok (content_of state)

-- a fault is the one of a reading, unless memory ran out
abbrev pub Fails : {Y : Type 0} → TraceFault → Result Y TraceFault → Type 0
Fails fault.NoMemory read = Unit {0}
Fails found read = read ≡ Err found

-- what was answered, seen in this way, is what a reading gives, unless memory ran out
abbrev pub Gives : {X Y : Type 0} → (X → Y) → Result X TraceFault → Result Y TraceFault → Type 0
Gives view (Ok x) read = read ≡ Ok (view x)
Gives view (Err found) read = Fails found read

-- what a ledger in memory holds
abbrev pub state_of : Ledger → State
state_of ledger = record { accounts = ledger.accounts; rows = ledger.rows.items; cuts = ledger.cuts.items }

-- a ledger became what a reading gives, unless memory ran out
abbrev pub Becomes : Result (Unit {0}) TraceFault → Result State TraceFault → Ledger → Type 0
Becomes (Ok _) read new = read ≡ Ok (state_of new)
Becomes (Err found) read new = Fails found read
