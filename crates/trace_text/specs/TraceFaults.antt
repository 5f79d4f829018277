-- The faults of a trace by their table: which record is at fault, and which fault is its first.
use Rattle.std.specs.Prelude.{◌≡◌, ℕ, ◌+◌, ◌==◌, ◌||◌, Bool, false, not, nat_le, nat_lt, if◌then◌else◌, List, ◌∷◌, ◌++◌, length, Option, Some, None, is_none, is_some, Ok, Err}
use Rattle.std.specs.Option.{unwrap_or}
use Rattle.text_lines.specs.Steps.{fault_in}
use Rattle.trace_text.specs.Fields.{action_of, amount_of, cap_of, field, is_tenant, width, worker_of}
use Rattle.trace_text.specs.Trace.{State, account_at, place_of, record_after, records_after}
use Rattle.trace_text.specs.declared.fields.Action.{Action}
use Rattle.trace_text.specs.declared.fields.Action.TheVariants.{Open, Settle, Call}
use Rattle.trace_text.specs.declared.fields.Format.{Format}
use Rattle.text_lines.specs.declared.pieces.TheConstants.{MOST_NUMBER}
use Rattle.trace_text.specs.declared.tenants.TheConstants.{MOST_TENANTS}
use Rattle.trace_text.specs.declared.tracing.TheConstants.{MOST_CUTS, MOST_RECORDS}
use Rattle.trace_text.specs.declared.traces.TraceFault.{TraceFault}
use Rattle.trace_text.specs.declared.traces.TraceFault.TheVariants as fault

-- whether the tenant's field isn't that of a known action
abbrev pub wrong_tenant : Option Action → List ℕ → Bool
wrong_tenant None word = false
wrong_tenant (Some action) word = not (is_tenant action word)

-- whether the amount's field isn't that of a known action
abbrev pub wrong_amount : Option Action → List ℕ → Bool
wrong_amount None word = false
wrong_amount (Some action) word = is_none (amount_of action word)

-- whether a tenant is opened that is open already
abbrev pub is_again : Option Action → Option ℕ → Bool
is_again (Some Open) place = is_some place
is_again _ place = false

-- whether a call is on a tenant that isn't open
abbrev pub is_unknown : Option Action → Option ℕ → Bool
is_unknown (Some (Call _)) place = is_none place
is_unknown _ place = false

-- whether there is no room for what an action makes
abbrev pub is_full : Option Action → State → Bool
is_full (Some Open) state = nat_le MOST_TENANTS (length state.accounts)
is_full (Some Settle) state = nat_le MOST_CUTS (length state.cuts)
is_full _ state = false

-- whether with an amount the tenant at a place reaches 2^63
abbrev pub is_above : Option Action → Option ℕ → ℕ → State → Bool
is_above (Some (Call _)) (Some place) amount state = nat_lt MOST_NUMBER ((account_at state.accounts place).used + amount)
is_above _ place amount state = false

-- whether the cap's field isn't that of a known action with an amount
abbrev pub wrong_cap : Format → Option Action → ℕ → List ℕ → Bool
wrong_cap format None amount word = false
wrong_cap format (Some action) amount word = is_none (cap_of format action amount word)

-- the amount of a known action, or 0
abbrev pub amount_in : Option Action → List ℕ → ℕ
amount_in None word = 0
amount_in (Some action) word = unwrap_or (amount_of action word) 0

-- the first fault of what a record asks for, after what is known
abbrev pub asked_fault : Format → ℕ → Option Action → ℕ → List (List ℕ) → State → Option TraceFault
asked_fault format at action amount row state =
    if is_again action (place_of (field row 2) state.accounts) then Some (fault.Again at)
    else (if is_unknown action (place_of (field row 2) state.accounts) then Some (fault.Unknown at)
    else (if nat_lt MOST_RECORDS at || is_full action state then Some (fault.TooMany at)
    else (if is_above action (place_of (field row 2) state.accounts) amount state then Some (fault.Total at)
    else (if wrong_cap format action amount (field row 4) then Some (fault.Cap at)
    else None))))

-- the first fault of a record after what is known: by its fields up to the amount, or else by what it asks for
abbrev pub record_fault : Format → ℕ → ℕ → List (List ℕ) → State → Option TraceFault
record_fault format workers at row state =
    if not (length row == width format) then Some (fault.Fields at)
    else (if is_none (worker_of workers (field row 0)) then Some (fault.Worker at)
    else (if is_none (action_of format (field row 1)) then Some (fault.Op at)
    else (if wrong_tenant (action_of format (field row 1)) (field row 2) then Some (fault.Tenant at)
    else (if wrong_amount (action_of format (field row 1)) (field row 3) then Some (fault.Amount at)
    else asked_fault format at (action_of format (field row 1)) (amount_in (action_of format (field row 1)) (field row 3)) row state))))

-- the fault with which a record is refused is its first one, and one without a fault is read
abbrev pub RecordFaultsAreFirst : Type 0
RecordFaultsAreFirst = (format : Format) (workers at : ℕ) (row : List (List ℕ)) (state : State)
    → fault_in (record_after format workers at row state) ≡ record_fault format workers at row state

-- records that are refused are so for the first of them that is at fault, after those that were read
abbrev pub FirstRecordIsAtFault : Type 0
FirstRecordIsAtFault = (format : Format) (workers at : ℕ) (rows : List (List (List ℕ))) (state : State) (found : TraceFault) → records_after format workers at rows state ≡ Err found
    → (front : List (List (List ℕ))) × (row : List (List ℕ)) × (rest : List (List (List ℕ))) × (known : State) × (rows ≡ front ++ row ∷ rest)
    × (records_after format workers at front state ≡ Ok known) × (record_fault format workers (at + length front) row known ≡ Some found)

-- where records are read, none of them is at fault after those before it
abbrev pub NoRecordIsAtFault : Type 0
NoRecordIsAtFault = (format : Format) (workers at : ℕ) (front : List (List (List ℕ))) (row : List (List ℕ)) (rest : List (List (List ℕ))) (state next : State)
    → records_after format workers at (front ++ row ∷ rest) state ≡ Ok next
    → (known : State) × (records_after format workers at front state ≡ Ok known) × (record_fault format workers (at + length front) row known ≡ None)
