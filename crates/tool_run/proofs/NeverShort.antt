-- Calls of which no subtraction meets less than its amount, and no addition stops at the cap.
use Rattle.std.proofs.Common.{◌≡◌, ℕ, suc, ◌+◌, ◌≤◌, ◌<◌, List, [], ◌∷◌, Bool, true, false, cond, take, refl, ap, ◌∙◌, arith}
use Rattle.std.specs.Prelude.{All, sum_by, ◌==◌, ◌&&◌}
use Rattle.std.proofs.lemmas.List.Elements.{All-head, All-tail}
use Rattle.std.proofs.lemmas.List.Sums.{sum_by-cons, sum_by_more_le}
use Rattle.fn_model.specs.declared.Call.{Call}
use Rattle.fn_model.specs.declared.Kind.{Kind}
use Rattle.fn_model.specs.declared.Kind.TheVariants.{Add, Sub, Read}
use Rattle.fn_model.specs.Calls.{own}
use Rattle.fn_model.specs.Integer.{after, moved_amount, value}
use Rattle.fn_core.specs.declared.Start.{Start}
use Rattle.fn_core.specs.Laws.{HasReply}
use Rattle.trace_text.specs.declared.traces.Row.{Row}
use Rattle.replay_run.specs.Segments.{call_of, calls_from, is_of, kind_of, rows_of}
use Rattle.replay_run.specs.Work.{of_worker}
use Rattle.replay_run.proofs.KeyedSums.{same_sums}
use Rattle.replay_run.proofs.NoFault.{none_from, worker_of}
use Rattle.replay_run.proofs.Outside.{adds}

-- what a call can take
abbrev pub takes : Kind → ℕ → ℕ
takes Add amount = 0
takes Sub amount = amount
takes Read amount = 0

abbrev pub by_call : (Kind → ℕ → ℕ) → Call → ℕ
by_call by call = by call.kind call.amount

abbrev pub by_row : (Kind → ℕ → ℕ) → Row → ℕ
by_row by row = by (kind_of row.op) row.amount

-- one call that meets enough
after-whole : (cap v : ℕ) (kind : Kind) (amount : ℕ) → takes kind amount ≤ v → v + adds kind amount ≤ cap → after cap v kind amount + takes kind amount ≡ v + adds kind amount
after-whole cap v Add amount enough room = omega arith
after-whole cap v Sub amount enough room = omega arith
after-whole cap v Read amount enough room = omega arith

-- what is left after calls that take no more than the opening
pub value-whole : (cap opening : ℕ) (calls : List Call) → sum_by (by_call takes) calls ≤ opening → opening + sum_by (by_call adds) calls ≤ cap
    → value cap opening calls + sum_by (by_call takes) calls ≡ opening + sum_by (by_call adds) calls
value-whole cap opening [] enough room = refl
value-whole cap opening (call ∷ calls) enough room =
    let taken = sum_by-cons (by_call takes) call calls in
    let added = sum_by-cons (by_call adds) call calls in
    let one = after-whole cap opening call.kind call.amount (omega arith) (omega arith) in
    let rest = value-whole cap (after cap opening call.kind call.amount) calls (omega arith) (omega arith) in
    omega arith

moved-whole : (cap reply opening taken added all_taken all_added : ℕ) (kind : Kind) (amount : ℕ) → reply + taken ≡ opening + added → taken + takes kind amount ≤ all_taken → all_taken ≤ opening
    → added + adds kind amount ≤ all_added → opening + all_added ≤ cap → moved_amount cap reply kind amount ≡ takes kind amount + adds kind amount
moved-whole cap reply opening taken added all_taken all_added Add amount is more enough further room = omega arith
moved-whole cap reply opening taken added all_taken all_added Sub amount is more enough further room = omega arith
moved-whole cap reply opening taken added all_taken all_added Read amount is more enough further room = omega arith

-- a call among them moves its whole amount
pub reply-whole : (start : Start) (calls : List Call) (call : Call) (reply : ℕ) → sum_by (by_call takes) calls ≤ start.opening → start.opening + sum_by (by_call adds) calls ≤ start.cap
    → HasReply start calls call reply → moved_amount start.cap reply call.kind call.amount ≡ takes call.kind call.amount + adds call.kind call.amount
reply-whole start calls call reply enough room has =
    let i = has.0 in
    let taken_more = sum_by_more_le (by_call takes) calls i call has.2 in
    let added_more = sum_by_more_le (by_call adds) calls i call has.2 in
    let taken : sum_by (by_call takes) (take i calls) + takes call.kind call.amount ≤ sum_by (by_call takes) calls = rw has.3 at taken_more in
    let added : sum_by (by_call adds) (take i calls) + adds call.kind call.amount ≤ sum_by (by_call adds) calls = rw has.3 at added_more in
    let met = value-whole start.cap start.opening (take i calls) (omega arith) (omega arith) in
    let is : reply + sum_by (by_call takes) (take i calls) ≡ start.opening + sum_by (by_call adds) (take i calls) = rw has.4 at met in
    moved-whole start.cap reply start.opening (sum_by (by_call takes) (take i calls)) (sum_by (by_call adds) (take i calls)) (sum_by (by_call takes) calls) (sum_by (by_call adds) calls) call.kind call.amount is taken enough added room

-- the calls of rows add up as the rows do
sum_by-calls_from : (by : Kind → ℕ → ℕ) (n : ℕ) (rows : List Row) → sum_by (by_call by) (calls_from n rows) ≡ sum_by (by_row by) rows
sum_by-calls_from by n [] = refl
sum_by-calls_from by n (row ∷ rows) = omega (arith, sum_by-cons (by_call by) (call_of n row) (calls_from (suc n) rows), sum_by-cons (by_row by) row rows, sum_by-calls_from by (suc n) rows)

and-true : (b : Bool) → (b && true) ≡ b
and-true true = refl
and-true false = refl

-- the rows of a worker at the one tenant
rows_of-alone : (worker : ℕ) (rows : List Row) → All (λ row. row.tenant ≡ 0) rows → rows_of worker 0 rows ≡ of_worker worker rows
rows_of-alone worker [] alone = refl
rows_of-alone worker (row ∷ rows) alone =
    let first : row.tenant ≡ 0 = All-head (λ (r : Row). r.tenant ≡ 0) row rows alone in
    let here : is_of worker 0 row ≡ (row.worker == worker) = ap (λ n. (row.worker == worker) && (n == 0)) first ∙ and-true (row.worker == worker) in
    ap (λ (b : Bool). cond b (row ∷ rows_of worker 0 rows) (rows_of worker 0 rows)) here
    ∙ ap (λ (rest : List Row). cond (row.worker == worker) (row ∷ rest) rest) (rows_of-alone worker rows (All-tail (λ (r : Row). r.tenant ≡ 0) row rows alone))

-- calls that are the workers' rows add up as the rows do
pub sum_by-rows : (by : Kind → ℕ → ℕ) (workers : ℕ) (rows : List Row) (calls : List Call) → All (λ row. row.worker < workers) rows → All (λ row. row.tenant ≡ 0) rows
    → ((worker : ℕ) → own worker calls ≡ calls_from 0 (rows_of worker 0 rows)) → sum_by (by_call by) calls ≡ sum_by (by_row by) rows
sum_by-rows by workers rows calls within alone each =
    let nobody = none_from workers rows within in
    let same : (worker : ℕ) → sum_by (by_call by) (own worker calls) ≡ sum_by (by_row by) (of_worker worker rows) =
    λ worker. ap (sum_by (by_call by)) (each worker) ∙ sum_by-calls_from by 0 (rows_of worker 0 rows) ∙ ap (sum_by (by_row by)) (rows_of-alone worker rows alone) in
    let none : (worker : ℕ) → workers ≤ worker → own worker calls ≡ [] = λ worker past. each worker ∙ ap (calls_from 0) (rows_of-alone worker rows alone ∙ nobody worker past) in
    same_sums (by_call by) (λ (call : Call). call.pass) (by_row by) worker_of calls rows same workers none nobody
