-- What is read of a trace is in its grammar.
use Rattle.std.proofs.Common.{◌≡◌, ℕ, ◌+◌, ◌≤◌, true, List, [], ◌∷◌, ◌++◌, length, map, set, Option, Some, None, Result, Ok, Err, refl, sym, ap, ◌∙◌, arith}
use Rattle.std.specs.Prelude.{◌==◌, nat_lt, if◌then◌else◌, IfOk}
use Rattle.std.proofs.Math.Seq.{map-set_same}
use Rattle.std.proofs.lemmas.List.{map-append}
use Rattle.trace_text.proofs.FirstFaults.{settle-cap}
use Rattle.trace_text.proofs.Moves.{eq-true, spent-ok}
use Rattle.trace_text.proofs.Named.{named-found, new-nowhere, tenants_of}
use Rattle.text_lines.proofs.Steps.{bind_ok, guard_ok, required_ok}
use Rattle.trace_text.proofs.SoundSteps.{IsSoundState, sound-start, sound-step, sound-trace}
use Rattle.trace_text.specs.Fields.{action_of, amount_of, cap_of, field, format_of, is_tenant, width, worker_of}
use Rattle.trace_text.specs.Records.{records_of}
use Rattle.text_lines.specs.Steps.{required}
use Rattle.trace_text.specs.Trace.{Gives, State, content, account_after, account_at, account_of, account_settled, acted, called, content_of, no_account, opened, place_of, read_all, record_after, records_after, settled, spent, start, trace_of, unnamed, within}
use Rattle.trace_text.specs.TraceGrammar.{Adds, IsTrace, IsWithin, SayAll, Says}
use Rattle.trace_text.specs.TraceLaws.{TracesAreInGrammar}
use Rattle.trace_text.specs.declared.fields.Action.{Action}
use Rattle.trace_text.specs.declared.fields.Action.TheVariants.{Open, Settle, Call}
use Rattle.trace_text.specs.declared.fields.Format.{Format}
use Rattle.trace_text.specs.declared.tenants.Account.{Account}
use Rattle.trace_text.specs.declared.tenants.TheConstants.{MOST_TENANTS}
use Rattle.trace_text.specs.declared.tracing.TheConstants.{MOST_CUTS, MOST_RECORDS}
use Rattle.trace_text.specs.declared.traces.Op.{Op}
use Rattle.trace_text.specs.declared.traces.Trace.{Trace}
use Rattle.trace_text.specs.declared.traces.TraceFault.{TraceFault}
use Rattle.trace_text.specs.declared.traces.TraceFault.TheVariants as fault

-- the tenants after each action
pub tenants-opened : (accounts : List Account) (name : List ℕ) (opening cap : ℕ)
    → tenants_of (accounts ++ account_of name opening cap ∷ []) ≡ tenants_of accounts ++ record { name = name; opening = opening; cap = cap } ∷ []
tenants-opened accounts name opening cap = map-append (λ (account : Account). account.tenant) accounts (account_of name opening cap ∷ [])

pub tenants-settled : (accounts : List Account) → tenants_of (map account_settled accounts) ≡ tenants_of accounts
tenants-settled [] = refl
tenants-settled (account ∷ rest) = ap (λ tenants. account.tenant ∷ tenants) (tenants-settled rest)

pub tenants-called : (accounts : List Account) (place : ℕ) (op : Op) (amount : ℕ) → tenants_of (set accounts place (account_after op amount (account_at accounts place))) ≡ tenants_of accounts
tenants-called accounts place op amount = map-set_same (λ (account : Account). account.tenant) accounts place (account_after op amount (account_at accounts place)) no_account refl

-- a cap that is the action's, and what the action adds
abbrev Done : Format → ℕ → ℕ → Action → ℕ → List (List ℕ) → State → State → Type 0
Done format at worker action amount row state next =
    (cap : ℕ) × (cap_of format action amount (field row 4) ≡ Some cap) × Adds at worker action (field row 2) amount cap (content_of state) (content_of next)

unnamed-ok : (at : ℕ) (place : Option ℕ) (u : Unit {0}) → unnamed at place ≡ Ok u → place ≡ None
unfolding unnamed
unnamed-ok at None u h = refl
unnamed-ok at (Some place) u h = cc

opened-adds : (format : Format) (at worker amount : ℕ) (row : List (List ℕ)) (state next : State) → opened format at (field row 2) amount (field row 4) state ≡ Ok next
    → Done format at worker Open amount row state next
unfolding opened
opened-adds format at worker amount row state next h =
    let free = bind_ok (unnamed at (place_of (field row 2) state.accounts)) _ next h in
    let limit = bind_ok (within at (nat_lt (length state.accounts) MOST_TENANTS)) _ next free.2 in
    let cap = bind_ok (required (fault.Cap at) (cap_of format Open amount (field row 4))) _ next limit.2 in
    let new = new-nowhere (field row 2) state.accounts (unnamed-ok at (place_of (field row 2) state.accounts) free.0 free.1) in
    let made = cap.2 in
    let is : next ≡ record { accounts = state.accounts ++ account_of (field row 2) amount cap.0 ∷ []; rows = state.rows; cuts = state.cuts } = cc in
    (cap.0, required_ok (fault.Cap at) (cap_of format Open amount (field row 4)) cap.0 cap.1, (new, ap content_of is ∙ rw (tenants-opened state.accounts (field row 2) amount cap.0) refl))

settled-adds : (format : Format) (at worker amount : ℕ) (row : List (List ℕ)) (state next : State) → settled format at (field row 4) state ≡ Ok next
    → Done format at worker Settle amount row state next
unfolding settled
settled-adds format at worker amount row state next h =
    let limit = bind_ok (within at (nat_lt (length state.cuts) MOST_CUTS)) _ next h in
    let cap = bind_ok (required (fault.Cap at) (cap_of format Settle 0 (field row 4))) _ next limit.2 in
    let made = cap.2 in
    let is : next ≡ record { accounts = map account_settled state.accounts; rows = state.rows; cuts = state.cuts ++ record { at = at; rows = length state.rows } ∷ [] } = cc in
    (cap.0, sym (settle-cap format amount (field row 4)) ∙ required_ok (fault.Cap at) (cap_of format Settle 0 (field row 4)) cap.0 cap.1, ap content_of is ∙ rw (tenants-settled state.accounts) refl)

called-adds : (format : Format) (at worker : ℕ) (op : Op) (amount : ℕ) (row : List (List ℕ)) (state next : State)
    → called format at worker op (field row 2) amount (field row 4) state ≡ Ok next → Done format at worker (Call op) amount row state next
unfolding called
called-adds format at worker op amount row state next h =
    let place = bind_ok (required (fault.Unknown at) (place_of (field row 2) state.accounts)) _ next h in
    let limit = bind_ok (within at true) _ next place.2 in
    let account = bind_ok (spent at op amount (account_at state.accounts place.0)) _ next limit.2 in
    let cap = bind_ok (required (fault.Cap at) (cap_of format (Call op) amount (field row 4))) _ next account.2 in
    let named = named-found (field row 2) state.accounts place.0 (required_ok (fault.Unknown at) (place_of (field row 2) state.accounts) place.0 place.1) in
    let after = spent-ok at op amount (account_at state.accounts place.0) account.0 account.1 in
    let made = cap.2 in
    let is : next ≡ record { accounts = set state.accounts place.0 account.0; rows = state.rows ++ record { at = at; worker = worker; op = op; tenant = place.0; amount = amount } ∷ []; cuts = state.cuts } = cc in
    (cap.0, required_ok (fault.Cap at) (cap_of format (Call op) amount (field row 4)) cap.0 cap.1, (place.0, named, ap content_of is ∙ rw (after.1, tenants-called state.accounts place.0 op amount) refl))

acted-adds : (format : Format) (at worker : ℕ) (action : Action) (amount : ℕ) (row : List (List ℕ)) (state next : State)
    → acted format at worker action amount row state ≡ Ok next → Done format at worker action amount row state next
unfolding acted
acted-adds format at worker Open amount row state next h = opened-adds format at worker amount row state next h
acted-adds format at worker Settle amount row state next h = settled-adds format at worker amount row state next h
acted-adds format at worker (Call op) amount row state next h = called-adds format at worker op amount row state next h

-- a record that is read says what is known after it
pub record-says : (format : Format) (workers at : ℕ) (row : List (List ℕ)) (state next : State) → record_after format workers at row state ≡ Ok next
    → Says format workers at row (content_of state) (content_of next)
unfolding record_after
record-says format workers at row state next h =
    let count = bind_ok (if length row == width format then Ok tt else Err (fault.Fields at)) _ next h in
    let worker = bind_ok (required (fault.Worker at) (worker_of workers (field row 0))) _ next count.2 in
    let action = bind_ok (required (fault.Op at) (action_of format (field row 1))) _ next worker.2 in
    let tenant = bind_ok (if is_tenant action.0 (field row 2) then Ok tt else Err (fault.Tenant at)) _ next action.2 in
    let amount = bind_ok (required (fault.Amount at) (amount_of action.0 (field row 3))) _ next tenant.2 in
    let done = acted-adds format at worker.0 action.0 amount.0 row state next amount.2 in
    record {
      worker = worker.0;
      action = action.0;
      amount = amount.0;
      cap = done.0;
      count = eq-true (length row) (width format) (guard_ok (length row == width format) tt count.0 (fault.Fields at) count.1).0;
      worker_is = required_ok (fault.Worker at) (worker_of workers (field row 0)) worker.0 worker.1;
      action_is = required_ok (fault.Op at) (action_of format (field row 1)) action.0 action.1;
      tenant_is = (guard_ok (is_tenant action.0 (field row 2)) tt tenant.0 (fault.Tenant at) tenant.1).0;
      amount_is = required_ok (fault.Amount at) (amount_of action.0 (field row 3)) amount.0 amount.1;
      cap_is = done.1;
      adds = done.2;
    }

-- records that are read say what is known after them, are within their limit, and keep what is known sound
record AreRead (format : Format) (workers at : ℕ) (rows : List (List (List ℕ))) (state next : State) : Type 0 where
  pub said : SayAll format workers at rows (content_of state) (content_of next)
  pub limit : at + length rows ≤ MOST_RECORDS + 1
  pub sound : IsSoundState workers next

records-read : (format : Format) (workers at : ℕ) (rows : List (List (List ℕ))) (state next : State) → at ≤ MOST_RECORDS + 1 → IsSoundState workers state
    → records_after format workers at rows state ≡ Ok next → AreRead format workers at rows state next
unfolding records_after
records-read format workers at [] state next below sound h =
    let same : state ≡ next = cc in
    record { said = ap content_of same; limit = omega arith; sound = rw same at sound }
records-read format workers at (row ∷ rest) state next below sound h =
    let was = bind_ok (record_after format workers at row state) (records_after format workers (at + 1) rest) next h in
    let step = sound-step format workers at row state was.0 sound was.1 in
    let within = step.0 in
    let later = records-read format workers (at + 1) rest was.0 next (omega arith) step.1 was.2 in
    let limit = later.limit in
    record { said = (content_of was.0, record-says format workers at row state was.0 was.1, later.said); limit = omega arith; sound = later.sound }

-- all accounts after records that are read
pub records-sound : (format : Format) (workers : ℕ) (rows : List (List (List ℕ))) (next : State) → records_after format workers 1 rows start ≡ Ok next → IsSoundState workers next
records-sound format workers rows next h = (records-read format workers 1 rows start next (omega arith) (sound-start workers) h).sound

within-sound : (workers : ℕ) (state : State) → IsSoundState workers state → IsWithin (content_of state)
within-sound workers state sound =
    let whole = sound-trace workers state sound in
    record { tenants = whole.few; cuts = whole.cuts_few; sums = whole.below }

pub read_all-said : (workers : ℕ) (records : List (List (List ℕ))) (state : State) → read_all workers records ≡ Ok state → IsTrace workers records (content_of state)
unfolding read_all
read_all-said workers [] state h = cc
read_all-said workers (first ∷ rest) state h =
    let format = bind_ok (required (fault.Header 0) (format_of first)) (λ format. records_after format workers 1 rest start) state h in
    let are = records-read format.0 workers 1 rest start state (omega arith) (sound-start workers) format.2 in
    let limit = are.limit in
    record {
      format = format.0;
      first = first;
      rest = rest;
      whole = refl;
      header = required_ok (fault.Header 0) (format_of first) format.0 format.1;
      said = are.said;
      limit = omega arith;
      within = within-sound workers state are.sound;
    }

pub traces-in_grammar : TracesAreInGrammar
traces-in_grammar workers records trace h =
    let was = bind_ok (read_all workers records) (λ state. Ok (content_of state)) trace h in
    let same : content_of was.0 ≡ trace = (let made = was.2 in cc) in
    rw (← same) (read_all-said workers records was.0 was.1)

-- what was answered about some bytes is in the grammar
pub gives-found : (workers : ℕ) (bytes : List ℕ) (result : Result Trace TraceFault) → Gives content result (trace_of workers bytes) → IfOk result (λ trace. IsTrace workers (records_of bytes) (content trace))
gives-found workers bytes (Ok trace) h = traces-in_grammar workers (records_of bytes) (content trace) h
gives-found workers bytes (Err found) h = tt
