-- What is known after some records follows from what they say, and so does the first fault after them.
use Rattle.std.proofs.Common.{◌≡◌, ℕ, suc, ◌+◌, ◌<◌, List, [], ◌∷◌, ◌++◌, length, get_or, Option, Some, None, Result, Ok, Err, IfErr, ◌⊎◌, inl, inr, refl, sym, ap, ◌∙◌, arith, subst}
use Rattle.trace_text.proofs.FirstFaults.{first-record, record-fault}
use Rattle.trace_text.proofs.Heard.{read_all-from}
use Rattle.trace_text.proofs.LastSegment.{ended-last}
use Rattle.trace_text.proofs.Named.{tenants_of}
use Rattle.trace_text.proofs.Said.{read_all-said, records-sound}
use Rattle.text_lines.proofs.Steps.{bind_ok}
use Rattle.trace_text.proofs.SoundSteps.{Agrees}
use Rattle.trace_text.specs.Fields.{format_of}
use Rattle.trace_text.specs.SoundTrace.{additions, amounts}
use Rattle.trace_text.specs.Records.{records_of}
use Rattle.text_lines.specs.Steps.{◌>>=◌, fault_in}
use Rattle.trace_text.specs.Trace.{Gives, State, content, content_of, read_all, record_after, records_after, start, trace_of}
use Rattle.trace_text.specs.TraceFaults.{record_fault}
use Rattle.trace_text.specs.TraceLaws.{FirstIsRefused, HasNoFormat, IsFirstFault, IsRefusedFor, RefusedForFirst, StateIsKnown, StopsAt, all_counted, counted, known}
use Rattle.trace_text.specs.declared.fields.Format.{Format}
use Rattle.trace_text.specs.declared.tenants.Account.{Account}
use Rattle.trace_text.specs.declared.traces.Cut.{Cut}
use Rattle.trace_text.specs.declared.traces.Row.{Row}
use Rattle.trace_text.specs.declared.traces.Trace.{Trace}
use Rattle.trace_text.specs.declared.traces.TraceFault.{TraceFault}
use Rattle.trace_text.specs.declared.traces.TraceFault.TheVariants as fault

-- an account by what the rows and cuts say
account-counted : (place : ℕ) (account : Account) (rows : List Row) (cuts : List Cut) → Agrees place account rows cuts → account ≡ counted place account.tenant rows cuts
account-counted place account rows cuts agrees =
    let reach = agrees.reach ∙ ended-last (additions place) place account.tenant.cap account.tenant.opening 0 rows cuts in
    let used = agrees.used ∙ ended-last (amounts place) place account.tenant.cap account.tenant.opening 0 rows cuts in
    rw (← reach, ← used) refl

accounts-counted : (place : ℕ) (accounts : List Account) (rows : List Row) (cuts : List Cut)
    → ((i : ℕ) (d : Account) → i < length accounts → Agrees (place + i) (get_or accounts i d) rows cuts) → accounts ≡ all_counted place (tenants_of accounts) rows cuts
accounts-counted place [] rows cuts agree = refl
accounts-counted place (account ∷ rest) rows cuts agree =
    let here : place + 0 ≡ place = omega arith in
    let first = account-counted place account rows cuts (subst (λ (n : ℕ). Agrees n account rows cuts) here (agree 0 account (omega arith))) in
    let later = accounts-counted (place + 1) rest rows cuts
    (λ i d less. (let next : place + suc i ≡ place + 1 + i = omega arith in subst (λ (n : ℕ). Agrees n (get_or rest i d) rows cuts) next (agree (suc i) d (omega arith)))) in
    ap (λ (head : Account). head ∷ rest) first ∙ ap (λ (tail : List Account). counted place account.tenant rows cuts ∷ tail) later

pub state-known : StateIsKnown
state-known format workers records state h =
    let sound = records-sound format workers records state h in
    let accounts = accounts-counted 0 state.accounts state.rows state.cuts
    (λ i d less. (let same : i ≡ 0 + i = omega arith in subst (λ (n : ℕ). Agrees n (get_or state.accounts i d) state.rows state.cuts) same (sound.agree i d less))) in
    ap (λ (all : List Account). let next : State = record { accounts = all; rows = state.rows; cuts = state.cuts } in next) accounts

-- what the first record names
read_all-format : (workers : ℕ) (first : List (List ℕ)) (rest : List (List (List ℕ))) (format : Format) → format_of first ≡ Some format
    → read_all workers (first ∷ rest) ≡ records_after format workers 1 rest start
unfolding read_all
read_all-format workers first rest format is = rw is refl

read_all-none : (workers : ℕ) (records : List (List (List ℕ))) → HasNoFormat records → read_all workers records ≡ Err (fault.Header 0)
unfolding read_all
read_all-none workers [] none = refl
read_all-none workers (first ∷ rest) none = rw none refl

-- records that are refused are so for their first fault
said-err : (read : Result State TraceFault) (found : TraceFault) → (read >>= λ state. Ok (content_of state)) ≡ Err found → read ≡ Err found
said-err (Ok state) found h = cc
said-err (Err why) found h = ap Err (let same : why ≡ found = cc in same)

format-cases : (o : Option Format) → (o ≡ None) ⊎ ((format : Format) × (o ≡ Some format))
format-cases None = inl refl
format-cases (Some format) = inr (format, refl)

header-first : (records : List (List (List ℕ))) (workers : ℕ) (found : TraceFault) → HasNoFormat records → read_all workers records ≡ Err found → IsFirstFault workers records found
header-first records workers found none h =
    let is = read_all-none workers records none in
    inl (none, (let same : Err (fault.Header 0) ≡ Err found = sym is ∙ h in cc))

record-first : (workers : ℕ) (first : List (List ℕ)) (rest : List (List (List ℕ))) (format : Format) (found : TraceFault) → format_of first ≡ Some format
    → read_all workers (first ∷ rest) ≡ Err found → IsFirstFault workers (first ∷ rest) found
record-first workers first rest format found is h =
    let s = first-record format workers 1 rest start found (sym (read_all-format workers first rest format is) ∙ h) in
    inr (record {
      format = format;
      first = first;
      front = s.0;
      row = s.1;
      rest = s.2;
      before = content_of s.3;
      whole = ap (λ (records : List (List (List ℕ))). first ∷ records) s.4;
      header = is;
      said = read_all-said workers (first ∷ s.0) s.3 (read_all-format workers first s.0 format is ∙ s.5);
      at_fault = subst (λ (state : State). record_fault format workers (1 + length s.0) s.1 state ≡ Some found) (state-known format workers s.0 s.3 s.5) s.6;
    })

pub refused-for_first : RefusedForFirst
refused-for_first workers [] found h = header-first [] workers found tt (said-err (read_all workers []) found h)
refused-for_first workers (first ∷ rest) found h =
    elim (format-cases (format_of first)) [
      | inl none ↦ header-first (first ∷ rest) workers found none (said-err (read_all workers (first ∷ rest)) found h)
      | inr format ↦ record-first workers first rest format.0 found format.1 (said-err (read_all workers (first ∷ rest)) found h)
    ]

-- records that have a first fault are refused for it
some-fault : {A E : Type 0} (r : Result A E) (e : E) → fault_in r ≡ Some e → r ≡ Err e
some-fault (Ok x) e h = cc
some-fault (Err d) e h = cc

records-stop : (format : Format) (workers at : ℕ) (front : List (List (List ℕ))) (row : List (List ℕ)) (rest : List (List (List ℕ))) (state next : State) (found : TraceFault)
    → records_after format workers at front state ≡ Ok next → record_after format workers (at + length front) row next ≡ Err found
    → records_after format workers at (front ++ row ∷ rest) state ≡ Err found
unfolding records_after
records-stop format workers at [] row rest state next found h refused =
    let same : state ≡ next = cc in
    let here : at + 0 ≡ at = omega arith in
    let is = (rw (here, ← same) at refused) in
    rw is refl
records-stop format workers at (first ∷ front) row rest state next found h refused =
    let was = bind_ok (record_after format workers at first state) (records_after format workers (at + 1) front) next h in
    let place : at + suc (length front) ≡ at + 1 + length front = omega arith in
    rw was.1 (records-stop format workers (at + 1) front row rest was.0 next found was.2 (rw place at refused))

stop-refused : (workers : ℕ) (records : List (List (List ℕ))) (found : TraceFault) → StopsAt workers records found → read_all workers records ≡ Err found
stop-refused workers records found s =
    let read = read_all-from workers (s.first ∷ s.front) s.before s.said in
    let front = sym (read_all-format workers s.first s.front s.format s.header) ∙ read.1 in
    let is : read.0 ≡ known s.before = state-known s.format workers s.front read.0 front ∙ ap known read.2 in
    let fails = some-fault (record_after s.format workers (1 + length s.front) s.row read.0) found
    (record-fault s.format workers (1 + length s.front) s.row read.0 ∙ subst (λ (state : State). record_fault s.format workers (1 + length s.front) s.row state ≡ Some found) (sym is) s.at_fault) in
    rw s.whole (read_all-format workers s.first (s.front ++ s.row ∷ s.rest) s.format s.header ∙ records-stop s.format workers 1 s.front s.row s.rest start read.0 found front fails)

pub first-refused : FirstIsRefused
first-refused workers records found (inl none) = rw (read_all-none workers records none.0, none.1) refl
first-refused workers records found (inr s) = rw (stop-refused workers records found s) refl

-- a reading that answers a fault is refused for it
pub gives-first : (workers : ℕ) (bytes : List ℕ) (result : Result Trace TraceFault) → Gives content result (trace_of workers bytes) → IfErr result (λ found. IsRefusedFor workers (records_of bytes) found)
gives-first workers bytes (Ok trace) h = tt
gives-first workers bytes (Err fault.NoMemory) h = tt
gives-first workers bytes (Err (fault.Header at)) h = refused-for_first workers (records_of bytes) (fault.Header at) h
gives-first workers bytes (Err (fault.Fields at)) h = refused-for_first workers (records_of bytes) (fault.Fields at) h
gives-first workers bytes (Err (fault.Worker at)) h = refused-for_first workers (records_of bytes) (fault.Worker at) h
gives-first workers bytes (Err (fault.Op at)) h = refused-for_first workers (records_of bytes) (fault.Op at) h
gives-first workers bytes (Err (fault.Tenant at)) h = refused-for_first workers (records_of bytes) (fault.Tenant at) h
gives-first workers bytes (Err (fault.Amount at)) h = refused-for_first workers (records_of bytes) (fault.Amount at) h
gives-first workers bytes (Err (fault.Again at)) h = refused-for_first workers (records_of bytes) (fault.Again at) h
gives-first workers bytes (Err (fault.Unknown at)) h = refused-for_first workers (records_of bytes) (fault.Unknown at) h
gives-first workers bytes (Err (fault.TooMany at)) h = refused-for_first workers (records_of bytes) (fault.TooMany at) h
gives-first workers bytes (Err (fault.Total at)) h = refused-for_first workers (records_of bytes) (fault.Total at) h
gives-first workers bytes (Err (fault.Cap at)) h = refused-for_first workers (records_of bytes) (fault.Cap at) h
