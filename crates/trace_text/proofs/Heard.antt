-- What is in the grammar of traces is read.
use Rattle.std.proofs.Common.{rules, tests, ◌≡◌, ℕ, ◌+◌, ◌<◌, ◌≤◌, true, false, List, [], ◌∷◌, ◌++◌, length, map, set, Some, Result, Ok, refl, sym, ap, arith, subst, length-append}
use Rattle.std.specs.Prelude.{◌==◌, nat_le, nat_lt}
use Rattle.std.proofs.lemmas.Bool.{eq-eqb}
use Rattle.std.proofs.lemmas.List.{length-map}
use Rattle.trace_text.proofs.Before.{adds-apart, adds-rises, said-within}
use Rattle.trace_text.proofs.FirstFaults.{settle-cap}
use Rattle.trace_text.proofs.LastSegment.{StaysBelow-last}
use Rattle.trace_text.proofs.Named.{AreApart, found-named, nowhere-new, tenant-at, tenants_of}
use Rattle.trace_text.proofs.Said.{tenants-called, tenants-opened, tenants-settled}
use Rattle.trace_text.proofs.Segments.{cost, ended-row}
use Rattle.trace_text.proofs.SoundSteps.{IsSoundState, sound-start, sound-step}
use Rattle.trace_text.specs.Fields.{cap_of, field, width}
use Rattle.trace_text.specs.Records.{records_of}
use Rattle.trace_text.specs.Trace.{Content, Gives, State, content, account_after, account_at, account_of, account_settled, acted, called, content_of, no_account, opened, read_all, record_after, records_after, settled, spent, start, trace_of, unnamed, within}
use Rattle.trace_text.specs.TraceGrammar.{Adds, IsNamed, IsNew, IsTrace, IsWithin, SayAll, Says}
use Rattle.trace_text.specs.TraceLaws.{GrammarIsRead}
use Rattle.trace_text.specs.declared.fields.Action.{Action}
use Rattle.trace_text.specs.declared.fields.Action.TheVariants.{Open, Settle, Call}
use Rattle.trace_text.specs.declared.fields.Format.{Format}
use Rattle.text_lines.specs.declared.pieces.TheConstants.{MOST_NUMBER}
use Rattle.trace_text.specs.declared.tenants.Account.{Account}
use Rattle.trace_text.specs.declared.tenants.TheConstants.{MOST_TENANTS}
use Rattle.trace_text.specs.declared.tracing.TheConstants.{MOST_CUTS, MOST_RECORDS}
use Rattle.trace_text.specs.declared.traces.Op.{Op}
use Rattle.trace_text.specs.declared.traces.Row.{Row}
use Rattle.trace_text.specs.declared.traces.Trace.{Trace}
use Rattle.trace_text.specs.declared.traces.TraceFault.{TraceFault}

-- tests of numbers that come out so
true-le : (m n : ℕ) → m ≤ n → nat_le m n ≡ true
true-le m n h = search (rules, tests)

true-lt : (m n : ℕ) → m < n → nat_lt m n ≡ true
true-lt m n h = search (rules, tests)

false-lt : (m n : ℕ) → n ≤ m → nat_lt m n ≡ false
false-lt m n h = search (rules, tests)

true-eq : (m n : ℕ) → m ≡ n → (m == n) ≡ true
true-eq m n h = search (rules, tests)

-- an action that adds to what was said is read so
opened-from : (format : Format) (at amount cap : ℕ) (row : List (List ℕ)) (state : State) (after : Content) → at ≤ MOST_RECORDS → IsWithin after
    → cap_of format Open amount (field row 4) ≡ Some cap → IsNew (field row 2) (tenants_of state.accounts)
    → after ≡ record { tenants = tenants_of state.accounts ++ record { name = field row 2; opening = amount; cap = cap } ∷ []; rows = state.rows; cuts = state.cuts }
    → (next : State) × (opened format at (field row 2) amount (field row 4) state ≡ Ok next) × (content_of next ≡ after)
unfolding opened unnamed within
opened-from format at amount cap row state after limit w cap_is new is =
    let inside = subst IsWithin is w in
    let few = inside.tenants in
    let more = length-append (tenants_of state.accounts) (record { name = field row 2; opening = amount; cap = cap } ∷ []) in
    let count = length-map state.accounts (λ (account : Account). account.tenant) in (
      record { accounts = state.accounts ++ account_of (field row 2) amount cap ∷ []; rows = state.rows; cuts = state.cuts },
      rw (nowhere-new (field row 2) state.accounts new, true-le at MOST_RECORDS limit, true-lt (length state.accounts) MOST_TENANTS (omega arith), cap_is) refl,
      rw (tenants-opened state.accounts (field row 2) amount cap) (sym is),
    )

settled-from : (format : Format) (at amount cap : ℕ) (row : List (List ℕ)) (state : State) (after : Content) → at ≤ MOST_RECORDS → IsWithin after
    → cap_of format Settle amount (field row 4) ≡ Some cap
    → after ≡ record { tenants = tenants_of state.accounts; rows = state.rows; cuts = state.cuts ++ record { at = at; rows = length state.rows } ∷ [] }
    → (next : State) × (settled format at (field row 4) state ≡ Ok next) × (content_of next ≡ after)
unfolding settled within
settled-from format at amount cap row state after limit w cap_is is =
    let inside = subst IsWithin is w in
    let few = inside.cuts in
    let more = length-append state.cuts (record { at = at; rows = length state.rows } ∷ []) in (
      record { accounts = map account_settled state.accounts; rows = state.rows; cuts = state.cuts ++ record { at = at; rows = length state.rows } ∷ [] },
      rw (true-le at MOST_RECORDS limit, true-lt (length state.cuts) MOST_CUTS (omega arith), settle-cap format amount (field row 4), cap_is) refl,
      rw (tenants-settled state.accounts) (sym is),
    )

-- the sum of a row's tenant stays below 2^63
row-below : (workers : ℕ) (state : State) (row : Row) → IsSoundState workers state → row.tenant < length state.accounts
    → IsWithin (record { tenants = tenants_of state.accounts; rows = state.rows ++ row ∷ []; cuts = state.cuts }) → (account_at state.accounts row.tenant).used + row.amount ≤ MOST_NUMBER
row-below workers state row sound there w =
    let account = account_at state.accounts row.tenant in
    let count = length-map state.accounts (λ (account : Account). account.tenant) in
    let sums = w.sums row.tenant account.tenant (omega arith) in
    let below = StaysBelow-last row.tenant account.tenant.cap account.tenant.opening 0 (state.rows ++ row ∷ []) state.cuts (rw (tenant-at state.accounts row.tenant no_account account.tenant there) at sums) in
    let all : length state.rows ≡ 0 + length state.rows = omega arith in
    let more = ended-row (cost row.tenant) row.tenant account.tenant.cap account.tenant.opening 0 state.rows row state.cuts (rw (← all) sound.cuts) in
    let used = (sound.agree row.tenant no_account there).used in
    let own : cost row.tenant row ≡ row.amount = rw (eq-eqb row.tenant row.tenant refl) refl in
    omega arith

called-from : (format : Format) (workers at worker : ℕ) (op : Op) (amount cap : ℕ) (row : List (List ℕ)) (state : State) (after : Content) (place : ℕ) → at ≤ MOST_RECORDS
    → IsSoundState workers state → AreApart (tenants_of state.accounts) → IsWithin after → cap_of format (Call op) amount (field row 4) ≡ Some cap → IsNamed (field row 2) place (tenants_of state.accounts)
    → after ≡ record { tenants = tenants_of state.accounts; rows = state.rows ++ record { at = at; worker = worker; op = op; tenant = place; amount = amount } ∷ []; cuts = state.cuts }
    → (next : State) × (called format at worker op (field row 2) amount (field row 4) state ≡ Ok next) × (content_of next ≡ after)
unfolding called within spent
called-from format workers at worker op amount cap row state after place limit sound apart w cap_is named is =
    let count = length-map state.accounts (λ (account : Account). account.tenant) in
    let least = named.0 in
    let below = row-below workers state (record { at = at; worker = worker; op = op; tenant = place; amount = amount }) sound (omega arith) (subst IsWithin is w) in (
      record {
        accounts = set state.accounts place (account_after op amount (account_at state.accounts place));
        rows = state.rows ++ record { at = at; worker = worker; op = op; tenant = place; amount = amount } ∷ [];
        cuts = state.cuts;
      },
      rw (found-named (field row 2) state.accounts place apart named, true-le at MOST_RECORDS limit, false-lt MOST_NUMBER ((account_at state.accounts place).used + amount) below, cap_is) refl,
      rw (tenants-called state.accounts place op amount) (sym is),
    )

acted-from : (format : Format) (workers at worker : ℕ) (action : Action) (amount cap : ℕ) (row : List (List ℕ)) (state : State) (after : Content) → at ≤ MOST_RECORDS
    → IsSoundState workers state → AreApart (tenants_of state.accounts) → IsWithin after → cap_of format action amount (field row 4) ≡ Some cap
    → Adds at worker action (field row 2) amount cap (content_of state) after
    → (next : State) × (acted format at worker action amount row state ≡ Ok next) × (content_of next ≡ after)
unfolding acted
acted-from format workers at worker Open amount cap row state after limit sound apart w cap_is adds = opened-from format at amount cap row state after limit w cap_is adds.0 adds.1
acted-from format workers at worker Settle amount cap row state after limit sound apart w cap_is adds = settled-from format at amount cap row state after limit w cap_is adds
acted-from format workers at worker (Call op) amount cap row state after limit sound apart w cap_is adds =
    called-from format workers at worker op amount cap row state after adds.0 limit sound apart w cap_is adds.1 adds.2

-- a record that says something is read so
record-from : (format : Format) (workers at : ℕ) (row : List (List ℕ)) (state : State) (after : Content) → at ≤ MOST_RECORDS → IsSoundState workers state → AreApart (tenants_of state.accounts)
    → IsWithin after → Says format workers at row (content_of state) after → (next : State) × (record_after format workers at row state ≡ Ok next) × (content_of next ≡ after)
unfolding record_after
record-from format workers at row state after limit sound apart w s =
    let done = acted-from format workers at s.worker s.action s.amount s.cap row state after limit sound apart w s.cap_is s.adds in
    (done.0, rw (true-eq (length row) (width format) s.count, s.worker_is, s.action_is) (rw (s.tenant_is, s.amount_is) done.1), done.2)

-- records that say something one after the other are read so
records-from : (format : Format) (workers at : ℕ) (rows : List (List (List ℕ))) (state : State) (after : Content) → at + length rows ≤ MOST_RECORDS + 1 → IsSoundState workers state
    → AreApart (tenants_of state.accounts) → IsWithin after → SayAll format workers at rows (content_of state) after
    → (next : State) × (records_after format workers at rows state ≡ Ok next) × (content_of next ≡ after)
unfolding records_after
records-from format workers at [] state after limit sound apart w said = (state, refl, said)
records-from format workers at (row ∷ rest) state after limit sound apart w said =
    let says = said.1 in
    let rises = adds-rises at says.worker says.action (field row 2) says.amount says.cap (content_of state) said.0 says.adds sound.cuts in
    let inside = said-within format workers (at + 1) rest said.0 after said.2 rises w in
    let step = record-from format workers at row state said.0 (omega arith) sound apart inside says in
    let kept = (sound-step format workers at row state step.0 sound step.1).1 in
    let names = adds-apart at says.worker says.action (field row 2) says.amount says.cap (content_of state) said.0 says.adds apart in
    let later = records-from format workers (at + 1) rest step.0 after (omega arith) kept (subst (λ (c : Content). AreApart c.tenants) (sym step.2) names) w
    (subst (λ (c : Content). SayAll format workers (at + 1) rest c after) (sym step.2) said.2) in
    (later.0, rw step.1 later.1, later.2)

pub read_all-from : (workers : ℕ) (records : List (List (List ℕ))) (trace : Content) → IsTrace workers records trace → (state : State) × (read_all workers records ≡ Ok state) × (content_of state ≡ trace)
unfolding read_all
read_all-from workers records trace t =
    let limit = t.limit in
    let read = records-from t.format workers 1 t.rest start trace (omega arith) (sound-start workers) (λ i j d less inside. absurd (omega arith)) t.within t.said in
    (read.0, rw (t.whole, t.header) read.1, read.2)

pub grammar-read : GrammarIsRead
grammar-read workers records trace t =
    let read = read_all-from workers records trace t in
    rw read.1 (ap (λ (c : Content). Ok c) read.2)

-- what was answered about bytes that are in the grammar is what they say
pub gives-only : (workers : ℕ) (bytes : List ℕ) (result : Result Trace TraceFault) → Gives content result (trace_of workers bytes) → (trace : Content) → IsTrace workers (records_of bytes) trace
    → Gives content result (Ok trace)
gives-only workers bytes result h trace t = rw (grammar-read workers (records_of bytes) trace t) at h
