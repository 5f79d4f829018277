-- The grammar of traces: which records say what, apart from how they are read and from any fault.
use Rattle.std.specs.Prelude.{◌≡◌, ◌≢◌, ℕ, ◌+◌, ◌<◌, ◌≤◌, true, List, [], ◌∷◌, ◌++◌, length, slice_index_or, Some}
use Rattle.std.specs.List.{All}
use Rattle.trace_text.specs.Fields.{action_of, amount_of, cap_of, field, format_of, is_tenant, width, worker_of}
use Rattle.trace_text.specs.SoundTrace.{StaysBelow}
use Rattle.trace_text.specs.Trace.{Content}
use Rattle.trace_text.specs.declared.fields.Action.{Action}
use Rattle.trace_text.specs.declared.fields.Action.TheVariants.{Open, Settle, Call}
use Rattle.trace_text.specs.declared.fields.Format.{Format}
use Rattle.trace_text.specs.declared.traces.Tenant.{Tenant}

-- no tenant has this name yet
abbrev pub IsNew : List ℕ → List Tenant → Type 0
IsNew name tenants = All (λ tenant. tenant.name ≢ name) tenants

-- the tenant at a place has this name
abbrev pub IsNamed : List ℕ → ℕ → List Tenant → Type 0
IsNamed name place tenants = (place < length tenants) × ((d : Tenant) → (slice_index_or tenants place d).name ≡ name)

-- what an action adds to what was said before: a tenant with a new name, the end of a segment, or a row of the tenant with this name
abbrev pub Adds : ℕ → ℕ → Action → List ℕ → ℕ → ℕ → Content → Content → Type 0
Adds at worker Open name amount cap before after =
    IsNew name before.tenants
    × (after ≡ record { tenants = before.tenants ++ record { name = name; opening = amount; cap = cap } ∷ []; rows = before.rows; cuts = before.cuts })
Adds at worker Settle name amount cap before after =
    after ≡ record { tenants = before.tenants; rows = before.rows; cuts = before.cuts ++ record { at = at; rows = length before.rows } ∷ [] }
Adds at worker (Call op) name amount cap before after =
    (place : ℕ) × IsNamed name place before.tenants
    × (after ≡ record { tenants = before.tenants; rows = before.rows ++ record { at = at; worker = worker; op = op; tenant = place; amount = amount } ∷ []; cuts = before.cuts })

-- a record with this number: its fields are those of its action, which adds to what was said before
pub record Says (format : Format) (workers at : ℕ) (row : List (List ℕ)) (before after : Content) : Type 0 where
  pub worker : ℕ
  pub action : Action
  pub amount : ℕ
  pub cap : ℕ
  pub count : length row ≡ width format
  pub worker_is : worker_of workers (field row 0) ≡ Some worker
  pub action_is : action_of format (field row 1) ≡ Some action
  pub tenant_is : is_tenant action (field row 2) ≡ true
  pub amount_is : amount_of action (field row 3) ≡ Some amount
  pub cap_is : cap_of format action amount (field row 4) ≡ Some cap
  pub adds : Adds at worker action (field row 2) amount cap before after

-- records from this number on, one after the other
abbrev pub SayAll : Format → ℕ → ℕ → List (List (List ℕ)) → Content → Content → Type 0
SayAll format workers at [] before after = before ≡ after
SayAll format workers at (row ∷ rest) before after = (next : Content) × Says format workers at row before next × SayAll format workers (at + 1) rest next after

-- what no record says
abbrev pub nothing : Content
nothing = record { tenants = []; rows = []; cuts = [] }

-- the limits of what is said: tenants, cuts, and for each tenant the sums of each segment
pub record IsWithin (trace : Content) : Type 0 where
  pub tenants : length trace.tenants ≤ 256
  pub cuts : length trace.cuts ≤ 100
  pub sums : (i : ℕ) (d : Tenant) → i < length trace.tenants
      → StaysBelow i (slice_index_or trace.tenants i d).cap (slice_index_or trace.tenants i d).opening 0 trace.rows trace.cuts

-- a trace: a first record that names the format, and the records after it, numbered from 1 and within all limits
pub record IsTrace (workers : ℕ) (records : List (List (List ℕ))) (trace : Content) : Type 0 where
  pub format : Format
  pub first : List (List ℕ)
  pub rest : List (List (List ℕ))
  pub whole : records ≡ first ∷ rest
  pub header : format_of first ≡ Some format
  pub said : SayAll format workers 1 rest nothing trace
  pub limit : length rest ≤ 1000000
  pub within : IsWithin trace
