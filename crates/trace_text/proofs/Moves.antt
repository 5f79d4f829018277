-- What one record does to what is known, where it has no fault.
use Rattle.std.proofs.Common.{rules, tests, ◌≡◌, ℕ, ◌+◌, ◌<◌, ◌≤◌, Bool, true, false, List, [], ◌∷◌, ◌++◌, length, map, set, Option, Some, None, Ok, Err, refl, sym, arith}
use Rattle.std.specs.Prelude.{◌==◌, ◌&&◌, nat_le, nat_lt, if◌then◌else◌}
use Rattle.std.proofs.lemmas.List.Quantifiers.{position-Some}
use Rattle.text_lines.proofs.Steps.{both_hold, bind_ok, chosen, guard_err, guard_ok, le-true, lt-false, lt-true, number-bound, required_ok}
use Rattle.trace_text.specs.Fields.{action_of, amount_of, cap_of, field, is_tenant, width, worker_of}
use Rattle.trace_text.specs.SoundTrace.{IsAmount}
use Rattle.text_lines.specs.Steps.{required}
use Rattle.text_lines.specs.Text.{kept, number}
use Rattle.trace_text.specs.Trace.{State, account_after, account_at, account_of, account_settled, acted, called, no_account, opened, place_of, record_after, settled, spent, unnamed, within}
use Rattle.trace_text.specs.declared.fields.Action.{Action}
use Rattle.trace_text.specs.declared.fields.Action.TheVariants.{Open, Settle, Call}
use Rattle.trace_text.specs.declared.fields.Format.{Format}
use Rattle.trace_text.specs.declared.fields.Format.TheVariants.{Plain, Capped}
use Rattle.text_lines.specs.declared.pieces.TheConstants.{MOST_NUMBER}
use Rattle.trace_text.specs.declared.tenants.Account.{Account}
use Rattle.trace_text.specs.declared.tenants.TheConstants.{MOST_TENANTS}
use Rattle.trace_text.specs.declared.tracing.TheConstants.{MOST_CUTS, MOST_RECORDS}
use Rattle.trace_text.specs.declared.traces.Op.{Op}
use Rattle.trace_text.specs.declared.traces.Op.TheVariants.{Add, Take, Direct, Read}
use Rattle.trace_text.specs.declared.traces.TraceFault.TheVariants as fault

-- a tenant is opened within its cap
pub record Opens (state next : State) : Type 0 where
  pub name : List ℕ
  pub opening : ℕ
  pub cap : ℕ
  pub room : length state.accounts < MOST_TENANTS
  pub least : opening ≤ cap
  pub most : cap ≤ MOST_NUMBER
  pub is : next ≡ record { accounts = state.accounts ++ account_of name opening cap ∷ []; rows = state.rows; cuts = state.cuts }

-- a segment ends
pub record Settles (at : ℕ) (state next : State) : Type 0 where
  pub room : length state.cuts < MOST_CUTS
  pub is : next ≡ record { accounts = map account_settled state.accounts; rows = state.rows; cuts = state.cuts ++ record { at = at; rows = length state.rows } ∷ [] }

-- a worker calls, and the sum stays below 2^63
pub record Calls (workers at : ℕ) (state next : State) : Type 0 where
  pub worker : ℕ
  pub op : Op
  pub place : ℕ
  pub amount : ℕ
  pub worker_is : worker < workers
  pub place_is : place < length state.accounts
  pub amount_is : IsAmount op amount
  pub below : (account_at state.accounts place).used + amount ≤ MOST_NUMBER
  pub is : next ≡ record { accounts = set state.accounts place (account_after op amount (account_at state.accounts place)); rows = state.rows ++ record { at = at; worker = worker; op = op; tenant = place; amount = amount } ∷ []; cuts = state.cuts }

-- a number that was kept passes the test
kept-some : (test : ℕ → Bool) (o : Option ℕ) (n : ℕ) → kept test o ≡ Some n → (o ≡ Some n) × (test n ≡ true)
kept-some test None n h = cc
kept-some test (Some m) n h =
    let was = chosen (test m) m n h in
    rw (← was.1) (refl, was.0)

pub eq-true : (m n : ℕ) → (m == n) ≡ true → m ≡ n
eq-true m n h = search (rules, tests)

-- a worker that was read is one
worker_of-some : (workers : ℕ) (word : List ℕ) (n : ℕ) → worker_of workers word ≡ Some n → n < workers
unfolding worker_of
worker_of-some workers word n h = lt-true n workers (kept-some (λ m. nat_lt m workers) (number word) n h).1

-- an amount that was read is that of its action
amount_of-opening : (word : List ℕ) (n : ℕ) → amount_of Open word ≡ Some n → n ≤ MOST_NUMBER
unfolding amount_of
amount_of-opening word n h = number-bound word n h

amount_of-call : (op : Op) (word : List ℕ) (n : ℕ) → amount_of (Call op) word ≡ Some n → IsAmount op n
unfolding amount_of
amount_of-call Read word n h = eq-true n 0 (kept-some (λ m. m == 0) (number word) n h).1
amount_of-call Add word n h = lt-true 0 n (kept-some (λ m. nat_lt 0 m) (number word) n h).1
amount_of-call Take word n h = lt-true 0 n (kept-some (λ m. nat_lt 0 m) (number word) n h).1
amount_of-call Direct word n h = lt-true 0 n (kept-some (λ m. nat_lt 0 m) (number word) n h).1

-- a cap that was read isn't below the opening
cap_of-opening : (format : Format) (opening : ℕ) (word : List ℕ) (cap : ℕ) → opening ≤ MOST_NUMBER → cap_of format Open opening word ≡ Some cap
    → (opening ≤ cap) × (cap ≤ MOST_NUMBER)
unfolding cap_of
cap_of-opening Plain opening word cap small h = let same : MOST_NUMBER ≡ cap = cc in rw (← same) (small, omega arith)
cap_of-opening Capped opening word cap small h =
    let was = kept-some (λ m. nat_le opening m) (number word) cap h in
    (le-true opening cap was.1, number-bound word cap was.0)

-- a record and what it makes room for are within their limits
within-ok : (at : ℕ) (room : Bool) (u : Unit {0}) → within at room ≡ Ok u → (at ≤ MOST_RECORDS) × (room ≡ true)
unfolding within
within-ok at room u h =
    let was = guard_ok (nat_le at MOST_RECORDS && room) tt u (fault.TooMany at) h in
    let both = both_hold (nat_le at MOST_RECORDS) room was.0 in
    (le-true at MOST_RECORDS both.0, both.1)

-- the account of an op that was allowed
pub spent-ok : (at : ℕ) (op : Op) (amount : ℕ) (account after : Account) → spent at op amount account ≡ Ok after
    → (account.used + amount ≤ MOST_NUMBER) × (after ≡ account_after op amount account)
unfolding spent
spent-ok at op amount account after h =
    let was = guard_err (nat_lt MOST_NUMBER (account.used + amount)) (account_after op amount account) after (fault.Total at) h in
    (lt-false MOST_NUMBER (account.used + amount) was.0, sym was.1)

-- the three things that a record can do
opened-ok : (format : Format) (at : ℕ) (name : List ℕ) (opening : ℕ) (word : List ℕ) (state next : State) → opening ≤ MOST_NUMBER
    → opened format at name opening word state ≡ Ok next → (at ≤ MOST_RECORDS) × Opens state next
unfolding opened
opened-ok format at name opening word state next small h =
    let free = bind_ok (unnamed at (place_of name state.accounts)) _ next h in
    let limit = bind_ok (within at (nat_lt (length state.accounts) MOST_TENANTS)) _ next free.2 in
    let cap = bind_ok (required (fault.Cap at) (cap_of format Open opening word)) _ next limit.2 in
    let room = within-ok at (nat_lt (length state.accounts) MOST_TENANTS) limit.0 limit.1 in
    let bound = cap_of-opening format opening word cap.0 small (required_ok (fault.Cap at) (cap_of format Open opening word) cap.0 cap.1) in
    let made = cap.2 in
    (room.0, record { name = name; opening = opening; cap = cap.0; room = lt-true (length state.accounts) MOST_TENANTS room.1; least = bound.0; most = bound.1; is = cc })

settled-ok : (format : Format) (at : ℕ) (word : List ℕ) (state next : State) → settled format at word state ≡ Ok next → (at ≤ MOST_RECORDS) × Settles at state next
unfolding settled
settled-ok format at word state next h =
    let limit = bind_ok (within at (nat_lt (length state.cuts) MOST_CUTS)) _ next h in
    let cap = bind_ok (required (fault.Cap at) (cap_of format Settle 0 word)) _ next limit.2 in
    let room = within-ok at (nat_lt (length state.cuts) MOST_CUTS) limit.0 limit.1 in
    let made = cap.2 in
    (room.0, record { room = lt-true (length state.cuts) MOST_CUTS room.1; is = cc })

called-ok : (format : Format) (workers at worker : ℕ) (op : Op) (name : List ℕ) (amount : ℕ) (word : List ℕ) (state next : State)
    → worker < workers → IsAmount op amount → called format at worker op name amount word state ≡ Ok next → (at ≤ MOST_RECORDS) × Calls workers at state next
unfolding called
called-ok format workers at worker op name amount word state next below is_amount h =
    let place = bind_ok (required (fault.Unknown at) (place_of name state.accounts)) _ next h in
    let limit = bind_ok (within at true) _ next place.2 in
    let account = bind_ok (spent at op amount (account_at state.accounts place.0)) _ next limit.2 in
    let cap = bind_ok (required (fault.Cap at) (cap_of format (Call op) amount word)) _ next account.2 in
    let known = required_ok (fault.Unknown at) (place_of name state.accounts) place.0 place.1 in
    let there = position-Some _ state.accounts place.0 no_account known in
    let after = spent-ok at op amount (account_at state.accounts place.0) account.0 account.1 in
    let made = cap.2 in (
      (within-ok at true limit.0 limit.1).0,
      record {
        worker = worker;
        op = op;
        place = place.0;
        amount = amount;
        worker_is = below;
        place_is = there.0;
        amount_is = is_amount;
        below = after.0;
        is = rw (← after.1) (cc);
      },
    )

-- what a record without a fault does
pub data Move (workers at : ℕ) (state next : State) : Type 0 where
  opens : Opens state next → Move workers at state next
  settles : Settles at state next → Move workers at state next
  calls : Calls workers at state next → Move workers at state next

acted-ok : (format : Format) (workers at worker : ℕ) (action : Action) (amount : ℕ) (row : List (List ℕ)) (state next : State)
    → worker < workers → amount_of action (field row 3) ≡ Some amount → acted format at worker action amount row state ≡ Ok next
    → (at ≤ MOST_RECORDS) × Move workers at state next
unfolding acted
acted-ok format workers at worker Open amount row state next below is h =
    let done = opened-ok format at (field row 2) amount (field row 4) state next (amount_of-opening (field row 3) amount is) h in (done.0, opens done.1)
acted-ok format workers at worker Settle amount row state next below is h =
    let done = settled-ok format at (field row 4) state next h in (done.0, settles done.1)
acted-ok format workers at worker (Call op) amount row state next below is h =
    let done = called-ok format workers at worker op (field row 2) amount (field row 4) state next below (amount_of-call op (field row 3) amount is) h in (done.0, calls done.1)

-- a record without a fault is within the limit, and does one of the three
pub record_after-ok : (format : Format) (workers at : ℕ) (row : List (List ℕ)) (state next : State) → record_after format workers at row state ≡ Ok next
    → (at ≤ MOST_RECORDS) × Move workers at state next
unfolding record_after
record_after-ok format workers at row state next h =
    let count = bind_ok (if length row == width format then Ok tt else Err (fault.Fields at)) _ next h in
    let worker = bind_ok (required (fault.Worker at) (worker_of workers (field row 0))) _ next count.2 in
    let action = bind_ok (required (fault.Op at) (action_of format (field row 1))) _ next worker.2 in
    let tenant = bind_ok (if is_tenant action.0 (field row 2) then Ok tt else Err (fault.Tenant at)) _ next action.2 in
    let amount = bind_ok (required (fault.Amount at) (amount_of action.0 (field row 3))) _ next tenant.2 in
    acted-ok format workers at worker.0 action.0 amount.0 row state next
    (worker_of-some workers (field row 0) worker.0 (required_ok (fault.Worker at) (worker_of workers (field row 0)) worker.0 worker.1))
    (required_ok (fault.Amount at) (amount_of action.0 (field row 3)) amount.0 amount.1) amount.2
