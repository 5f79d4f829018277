-- The fault that is found in a trace is the first.
use Rattle.std.proofs.Common.{subst, tests, ◌≡◌, ℕ, suc, ◌+◌, Bool, true, false, List, [], ◌∷◌, ◌++◌, length, Option, Some, None, Result, Ok, Err, ◌⊎◌, inl, inr, refl, sym, ap, ◌∙◌, arith}
use Rattle.std.specs.Prelude.{◌==◌, ◌&&◌, ◌||◌, nat_le, nat_lt, not, if◌then◌else◌}
use Rattle.std.proofs.lemmas.Bool.{cases_Bool}
use Rattle.trace_text.proofs.InTurn.{records_after-more}
use Rattle.text_lines.proofs.Steps.{bind_ok}
use Rattle.trace_text.specs.Fields.{action_of, amount_of, cap_of, field, is_tenant, width, worker_of}
use Rattle.text_lines.specs.Steps.{◌>>=◌, fault_in}
use Rattle.trace_text.specs.Trace.{State, account_at, acted, called, opened, place_of, record_after, records_after, settled, spent, unnamed, within}
use Rattle.trace_text.specs.TraceFaults.{FirstRecordIsAtFault, NoRecordIsAtFault, RecordFaultsAreFirst, asked_fault, record_fault}
use Rattle.trace_text.specs.declared.fields.Action.{Action}
use Rattle.trace_text.specs.declared.fields.Action.TheVariants.{Open, Settle, Call}
use Rattle.trace_text.specs.declared.fields.Format.{Format}
use Rattle.trace_text.specs.declared.fields.Format.TheVariants.{Plain, Capped}
use Rattle.text_lines.specs.declared.pieces.TheConstants.{MOST_NUMBER}
use Rattle.trace_text.specs.declared.tenants.TheConstants.{MOST_TENANTS}
use Rattle.trace_text.specs.declared.tracing.TheConstants.{MOST_CUTS, MOST_RECORDS}
use Rattle.trace_text.specs.declared.traces.Op.{Op}
use Rattle.trace_text.specs.declared.traces.TraceFault.{TraceFault}
use Rattle.trace_text.specs.declared.traces.TraceFault.TheVariants as fault

-- there is one, or none
option_cases : {A : Type 0} (o : Option A) → (o ≡ None) ⊎ ((x : A) × (o ≡ Some x))
option_cases None = inl refl
option_cases (Some x) = inr (x, refl)

-- two tests of numbers that say the opposite
not-le : (m n : ℕ) → nat_le m n ≡ not (nat_lt n m)
not-le m n = grind (arith, tests)

not-lt : (m n : ℕ) → nat_lt m n ≡ not (nat_le n m)
not-lt m n = grind (arith, tests)

either-fault : (past full : Bool) (at : ℕ) → (if not past && not full then Ok tt else Err (fault.TooMany at)) ≡ (if past || full then Err (fault.TooMany at) else Ok (tt {0}))
either-fault true true at = refl
either-fault true false at = refl
either-fault false true at = refl
either-fault false false at = refl

-- a record is past its limit, or there is no room, or both are within
within-is : (at : ℕ) (full : Bool) → within at (not full) ≡ (if nat_lt MOST_RECORDS at || full then Err (fault.TooMany at) else Ok tt)
unfolding within
within-is at full = rw (not-le at MOST_RECORDS) (either-fault (nat_lt MOST_RECORDS at) full at)

-- what a record asks for
opened-fault : (format : Format) (at : ℕ) (amount : ℕ) (row : List (List ℕ)) (state : State)
    → fault_in (opened format at (field row 2) amount (field row 4) state) ≡ asked_fault format at (Some Open) amount row state
unfolding opened unnamed
opened-fault format at amount row state =
    elim (option_cases (place_of (field row 2) state.accounts)) [
      | inr place ↦ rw place.1 refl
      | inl none ↦ rw (none, not-lt (length state.accounts) MOST_TENANTS, within-is at (nat_le MOST_TENANTS (length state.accounts)))
          (elim (cases_Bool (nat_lt MOST_RECORDS at || nat_le MOST_TENANTS (length state.accounts))) [
            | inl past ↦ rw past refl
            | inr inside ↦ rw inside (elim (option_cases (cap_of format Open amount (field row 4))) [ inl no_cap ↦ rw no_cap refl | inr cap ↦ rw cap.1 refl ])
          ])
    ]

pub settle-cap : (format : Format) (amount : ℕ) (word : List ℕ) → cap_of format Settle 0 word ≡ cap_of format Settle amount word
unfolding cap_of
settle-cap Plain amount word = refl
settle-cap Capped amount word = refl

settled-fault : (format : Format) (at : ℕ) (amount : ℕ) (row : List (List ℕ)) (state : State)
    → fault_in (settled format at (field row 4) state) ≡ asked_fault format at (Some Settle) amount row state
unfolding settled
settled-fault format at amount row state =
    rw (not-lt (length state.cuts) MOST_CUTS, within-is at (nat_le MOST_CUTS (length state.cuts)))
    (elim (cases_Bool (nat_lt MOST_RECORDS at || nat_le MOST_CUTS (length state.cuts))) [
      | inl past ↦ rw past refl
      | inr inside ↦ rw (inside, settle-cap format amount (field row 4)) (elim (option_cases (cap_of format Settle amount (field row 4))) [ inl no_cap ↦ rw no_cap refl | inr cap ↦ rw cap.1 refl ])
    ])

called-fault : (format : Format) (at worker : ℕ) (op : Op) (amount : ℕ) (row : List (List ℕ)) (state : State)
    → fault_in (called format at worker op (field row 2) amount (field row 4) state) ≡ asked_fault format at (Some (Call op)) amount row state
unfolding called spent
called-fault format at worker op amount row state =
    elim (option_cases (place_of (field row 2) state.accounts)) [
      | inl none ↦ rw none refl
      | inr place ↦ rw (place.1, within-is at false)
          (elim (cases_Bool (nat_lt MOST_RECORDS at || false)) [
            | inl past ↦ rw past refl
            | inr inside ↦ rw inside (elim (cases_Bool (nat_lt MOST_NUMBER ((account_at state.accounts place.0).used + amount))) [
              | inl above ↦ rw above refl
              | inr below ↦ rw below (elim (option_cases (cap_of format (Call op) amount (field row 4))) [ inl no_cap ↦ rw no_cap refl | inr cap ↦ rw cap.1 refl ])
            ])
          ])
    ]

acted-fault : (format : Format) (at worker : ℕ) (action : Action) (amount : ℕ) (row : List (List ℕ)) (state : State)
    → fault_in (acted format at worker action amount row state) ≡ asked_fault format at (Some action) amount row state
unfolding acted
acted-fault format at worker Open amount row state = opened-fault format at amount row state
acted-fault format at worker Settle amount row state = settled-fault format at amount row state
acted-fault format at worker (Call op) amount row state = called-fault format at worker op amount row state

-- the first fault of a record
pub record-fault : RecordFaultsAreFirst
unfolding record_after
record-fault format workers at row state =
    elim (cases_Bool (length row == width format)) [
      | inr other ↦ rw other refl
      | inl same ↦ rw same (elim (option_cases (worker_of workers (field row 0))) [
        | inl none ↦ rw none refl
        | inr worker ↦ rw worker.1 (elim (option_cases (action_of format (field row 1))) [
          | inl none ↦ rw none refl
          | inr action ↦ rw action.1 (elim (cases_Bool (is_tenant action.0 (field row 2))) [
            | inr wrong ↦ rw wrong refl
            | inl good ↦ rw good (elim (option_cases (amount_of action.0 (field row 3))) [
              | inl none ↦ rw none refl
              | inr amount ↦ rw amount.1 (acted-fault format at worker.0 action.0 amount.0 row state)
            ])
          ])
        ])
      ])
    ]

-- the fault of a step that was refused, and of one that went on
fault-err : {A E : Type 0} (r : Result A E) (o : Option E) (found : E) → fault_in r ≡ o → r ≡ Err found → o ≡ Some found
fault-err r o found same is = sym same ∙ ap fault_in is

fault-ok : {A E : Type 0} (r : Result A E) (o : Option E) (x : A) → fault_in r ≡ o → r ≡ Ok x → o ≡ None
fault-ok r o x same is = sym same ∙ ap fault_in is

-- records whose first one at fault is this far
abbrev Refuses : Format → ℕ → ℕ → List (List (List ℕ)) → State → TraceFault → Type 0
Refuses format workers at rows state found =
    (front : List (List (List ℕ))) × (row : List (List ℕ)) × (rest : List (List (List ℕ))) × (known : State) × (rows ≡ front ++ row ∷ rest)
    × (records_after format workers at front state ≡ Ok known) × (record_fault format workers (at + length front) row known ≡ Some found)

refuses-now : (format : Format) (workers at : ℕ) (row : List (List ℕ)) (rest : List (List (List ℕ))) (state : State) (found : TraceFault)
    → record_after format workers at row state ≡ Err found → Refuses format workers at (row ∷ rest) state found
unfolding records_after
refuses-now format workers at row rest state found refused =
    let same : at ≡ at + 0 = omega arith in
    let is = fault-err (record_after format workers at row state) (record_fault format workers at row state) found (record-fault format workers at row state) refused in
    ([], row, rest, state, refl, refl, subst (λ (n : ℕ). record_fault format workers n row state ≡ Some found) same is)

refuses-later : (format : Format) (workers at : ℕ) (row : List (List ℕ)) (rest : List (List (List ℕ))) (state next : State) (found : TraceFault)
    → record_after format workers at row state ≡ Ok next → Refuses format workers (at + 1) rest next found → Refuses format workers at (row ∷ rest) state found
unfolding records_after
refuses-later format workers at row rest state next found was later =
    let same : at + 1 + length later.0 ≡ at + suc (length later.0) = omega arith in (
      row ∷ later.0,
      later.1,
      later.2,
      later.3,
      ap (λ rows. row ∷ rows) later.4,
      rw was later.5,
      subst (λ (n : ℕ). record_fault format workers n later.1 later.3 ≡ Some found) same later.6,
    )

step-refused : (read : Result State TraceFault) (next : State → Result State TraceFault) (found : TraceFault) → (read >>= next) ≡ Err found
    → (read ≡ Err found) ⊎ ((known : State) × (read ≡ Ok known) × (next known ≡ Err found))
step-refused (Err why) next found h = inl h
step-refused (Ok known) next found h = inr (known, refl, h)

-- the first record that is at fault
pub first-record : FirstRecordIsAtFault
unfolding records_after
first-record format workers at [] state found refused = cc
first-record format workers at (row ∷ rest) state found refused =
    elim (step-refused (record_after format workers at row state) (records_after format workers (at + 1) rest) found refused) [
      | inl now ↦ refuses-now format workers at row rest state found now
      | inr later ↦ refuses-later format workers at row rest state later.0 found later.1 (first-record format workers (at + 1) rest later.0 found later.2)
    ]

-- no record is at fault where all are read
pub no-record : NoRecordIsAtFault
unfolding records_after
no-record format workers at [] row rest state next h =
    let was = bind_ok (record_after format workers at row state) (records_after format workers (at + 1) rest) next h in
    let same : at ≡ at + 0 = omega arith in
    let is = fault-ok (record_after format workers at row state) (record_fault format workers at row state) was.0 (record-fault format workers at row state) was.1 in
    (state, refl, subst (λ (n : ℕ). record_fault format workers n row state ≡ None) same is)
no-record format workers at (first ∷ front) row rest state next h =
    let was = bind_ok (record_after format workers at first state) (records_after format workers (at + 1) (front ++ row ∷ rest)) next h in
    let later = no-record format workers (at + 1) front row rest was.0 next was.2 in
    let same : at + 1 + length front ≡ at + suc (length front) = omega arith in
    (later.0, sym (records_after-more format workers at first front state was.0 was.1) ∙ later.1, subst (λ (n : ℕ). record_fault format workers n row later.0 ≡ None) same later.2)
