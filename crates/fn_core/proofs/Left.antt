-- What a call leaves of its pass, and that it leaves the other passes alone.
use Rattle.std.proofs.Common.{◌≡◌, inl, inr, ℕ, zero, suc, ◌+◌, ◌<◌, ◌≤◌, [], ◌∷◌, Bool, true, false, refl, sym, ◌∙◌, ap, subst, arith, List}
use Rattle.std.specs.Prelude.{if◌then◌else◌, ◌==◌, Result, Ok, Err, IfOk}
use Rattle.std.proofs.lemmas.Bool.{eq-eqb, eqb-true, false≢true}
use Rattle.fn_model.specs.declared.Call.{Call}
use Rattle.fn_model.specs.declared.Kind.{Kind}
use Rattle.fn_model.specs.declared.Kind.TheVariants as kinds
use Rattle.fn_rows.proofs.Put.{put_here}
use Rattle.fn_rows.specs.Machine as local_step
use Rattle.fn_core.specs.Batches.{has_come}
use Rattle.fn_core.specs.declared.Event.{Event}
use Rattle.fn_core.specs.declared.Purpose.TheVariants as purpose
use Rattle.fn_core.specs.declared.Move.{Move}
use Rattle.fn_core.specs.declared.Move.TheVariants.{Scan, See, Announce, Arrive, Look, Close, Apply, Head, Fill, Point, Publish, Peek, Leave, Load, Exchange, Direct, Glance}
use Rattle.fn_rows.specs.declared.Field.{Field}
use Rattle.fn_core.specs.declared.answer.NoMemory.{NoMemory}
use Rattle.fn_core.specs.State.{Start, Position, Resting, Trying, Climbing, Deciding, Caller, State, opened, stage, local, goes_to, after_call, next_call, reply_of}
use Rattle.fn_core.specs.Begin.{events_of}
use Rattle.fn_core.specs.Machine.{IsStart, Legal, IsChange, MaySpend, May, Allowed, effect, moves, makes, applies, leaves, arrives, applied_by, filled_by, peeked_by, loaded_by, exchanged_by, no_cap}
use Rattle.fn_core.specs.Laws.{IsUnderway, IsLeftAlone}
use Rattle.fn_core.specs.Order.{next_move}
use Rattle.fn_core.specs.Calls.{CoreLog, state_in, IsLegal, IsIdle, HasCall, left_of, LeavesOthers, with_move, with_moves, MayOwn, own_moves, exchange_moves}
use Rattle.fn_core.proofs.Whole.{Whole, FitsAt, climbing}
use Rattle.fn_core.proofs.Counted.{IsCounted, opened_counted}
use Rattle.fn_core.proofs.Log.{opened_whole}
use Rattle.fn_core.proofs.Places.{kind_cases}
use Rattle.fn_core.proofs.Begins.{rests_out}
use Rattle.fn_core.proofs.Owned.{Owned, opened_owned, log_owned, out_idle}
use Rattle.fn_core.proofs.Locality.{events_are_local}
use Rattle.fn_core.proofs.Filling.{calls_always_go_on, run_push}
use Rattle.fn_core.proofs.Called.{legal_move, middle, tried, here, at, exchange_allowed}

-- what a pass has left where a state is
abbrev left_in : State → ℕ → ℕ
left_in s p = (s.callers p).left

-- what a caller has beside its position: what is left to it, how many calls it has made, and the last of them
abbrev Counts : Type 0
Counts = ℕ × ℕ × Call

abbrev counts_of : Caller → Counts
counts_of caller = (caller.left, caller.made, caller.last)

abbrev counts_in : State → ℕ → Counts
counts_in s p = counts_of (s.callers p)

-- a pass that goes on to another position keeps them
goes_keeps : (s : State) (p : ℕ) (position : Position) → counts_in (goes_to s p position) p ≡ counts_in s p
goes_keeps s p position = ap counts_of (put_here s.callers p (record (s.callers p) { position = position }) p refl)

goes_left : (s : State) (p : ℕ) (position : Position) → left_in (goes_to s p position) p ≡ left_in s p
goes_left s p position = ap (λ (c : Counts). c.0) (goes_keeps s p position)

-- a call by itself spends its amount
makes_left : (start : Start) (s : State) (p : ℕ) (kind : Kind) (amount : ℕ) → amount ≤ left_in s p → left_in (makes start s p kind amount) p + amount ≡ left_in s p
makes_left start s p kind amount le =
    let spent : left_in (makes start s p kind amount) p ≡ (after_call (s.callers p) (next_call s p kind amount)).left = ap (λ (c : Caller). c.left) (put_here s.callers p (after_call (s.callers p) (next_call s p kind amount)) p refl) in
    omega (arith, spent, le)

-- the steps that differ by the pass's position
applied_keep : (start : Start) (s : State) (p weight : ℕ) (position : Position) → counts_in (applied_by start s p weight position) p ≡ counts_in s p
applied_keep start s p weight Resting = refl
applied_keep start s p weight (Trying word) = refl
applied_keep start s p weight (Climbing kind level) = refl
applied_keep start s p weight (Deciding kind level word) = refl

filled_keep : (start : Start) (s : State) (p row : ℕ) (field : Field) (position : Position) → counts_in (filled_by start s p row field position) p ≡ counts_in s p
filled_keep start s p row field Resting = refl
filled_keep start s p row field (Trying word) = refl
filled_keep start s p row field (Climbing kind level) = refl
filled_keep start s p row field (Deciding kind level word) = refl

peeked_keep : (start : Start) (s : State) (p : ℕ) (position : Position) → counts_in (peeked_by start s p position) p ≡ counts_in s p
peeked_keep start s p Resting = refl
peeked_keep start s p (Trying word) = refl
peeked_keep start s p (Climbing kind level) = refl
peeked_keep start s p (Deciding kind level word) = refl

loaded_keep : (s : State) (p : ℕ) (position : Position) → counts_in (loaded_by s p position) p ≡ counts_in s p
loaded_keep s p Resting = goes_keeps s p (Trying s.main)
loaded_keep s p (Trying word) = goes_keeps s p (Trying s.main)
loaded_keep s p (Climbing kind level) = goes_keeps s p (Deciding kind level s.main)
loaded_keep s p (Deciding kind level word) = goes_keeps s p (Trying s.main)

keep_either : (test : Bool) (won lost : State) (p : ℕ) (counts : Counts) → counts_in won p ≡ counts → counts_in lost p ≡ counts → counts_in (if test then won else lost) p ≡ counts
keep_either true won lost p counts a b = a
keep_either false won lost p counts a b = b

decided_keep : (start : Start) (s : State) (p : ℕ) (kind : Kind) (amount level word : ℕ) → counts_in (exchanged_by start s p kind amount (Deciding kind level word)) p ≡ counts_in s p
decided_keep start s p kind amount level word =
    keep_either (s.main == word) (goes_to (applies start s p kind level amount) p (Climbing kind level)) (goes_to s p (Climbing kind level)) p (counts_in s p)
    (goes_keeps (applies start s p kind level amount) p (Climbing kind level)) (goes_keeps s p (Climbing kind level))

leaves_keep : (start : Start) (s : State) (p : ℕ) (kind : Kind) (level : ℕ) → counts_in (leaves start s p kind level) p ≡ counts_in s p
leaves_keep start s p kind zero = refl
leaves_keep start s p kind (suc zero) = goes_keeps (local start s kind 1 p (λ m. local_step.Leave m)) p Resting
leaves_keep start s p kind (suc (suc below)) =
    let b : ℕ = reply_of start.cap kind (stage start s kind (suc (suc below)) p) in
    goes_keeps (local start (local start s kind (suc (suc below)) p (λ m. local_step.Leave m)) kind (suc below) p (λ m. local_step.Hand_base m b)) p (Climbing kind (suc below))

module _ (start : Start) (ok : IsStart start) (s : State) (w : Whole start s) (c : IsCounted start s) (o : Owned start s) (p : ℕ) (range : p < start.shape.passes) (u : IsUnderway start s p) where
  -- a pass with a call underway doesn't rest
  rests_not : (s.callers p).position ≡ Resting → ⊥
  rests_not is = out_idle start ok s w c o p range (rests_out start ok s w p range is) u

  -- a call that is underway has arrived at its leaf
  arrives_keep : (kind : Kind) (level weight : ℕ) → May start s p (Arrive kind level weight) → counts_in (arrives start s p kind level weight) p ≡ counts_in s p
  arrives_keep kind zero weight may = refl
  arrives_keep kind (suc zero) weight may =
      let up = climbing start ok s w p kind 1 may.0.0 in
      absurd (elim (kind_cases u.0 kind) [
        | inl e ↦ false≢true (sym (ap has_come (ap (λ (k : Kind). stage start s k 1 p) e ∙ may.0.1.1)) ∙ u.1)
        | inr ne ↦ false≢true (sym (ap has_come (up.other u.0 1 ne)) ∙ u.1)
      ])
  arrives_keep kind (suc (suc below)) weight may = refl

  -- no step of a call that is underway spends or makes a call
  pub moves_keep : (step : Move) → May start s p step → counts_in (moves start s p step) p ≡ counts_in s p
  moves_keep (Scan kind level other) may = refl
  moves_keep (See kind level) may = goes_keeps (local start s kind level p (λ m. local_step.See m)) p (Climbing kind level)
  moves_keep (Announce kind level) may = refl
  moves_keep (Arrive kind level weight) may = arrives_keep kind level weight may
  moves_keep (Look kind level) may = refl
  moves_keep (Close kind level) may = refl
  moves_keep (Apply weight) may = applied_keep start s p weight (s.callers p).position
  moves_keep (Head kind level) may = refl
  moves_keep (Fill row field) may = filled_keep start s p row field (s.callers p).position
  moves_keep (Point kind level row) may = refl
  moves_keep (Publish kind level) may = refl
  moves_keep (Peek row field) may = peeked_keep start s p (s.callers p).position
  moves_keep (Leave kind level) may = leaves_keep start s p kind level
  moves_keep (Load purpose.Try) may = loaded_keep s p (s.callers p).position
  moves_keep (Load purpose.Read) may = absurd (rests_not may)
  moves_keep (Exchange kind amount) (inl may) = absurd (out_idle start ok s w c o p range (subst (FitsAt start s p) may.1 (w.fits p)) u)
  moves_keep (Exchange kind amount) (inr may) = subst (λ (x : Position). counts_in (exchanged_by start s p kind amount x) p ≡ counts_in s p) (sym may.2) (decided_keep start s p kind amount may.0 may.1)
  moves_keep (Direct amount) may = absurd (rests_not may.0)
  moves_keep Glance may = refl

-- after another step the other passes still stand as before
others_then : (old new last : CoreLog) (pass : ℕ) → LeavesOthers old new pass → LeavesOthers new last pass → LeavesOthers old last pass
others_then old new last pass first second q ne =
    let a = first q ne in
    let b = second q ne in
    (b.0 ∙ a.0, λ u. b.1 (a.1 u))

module _ (core : CoreLog) (legal : IsLegal core) (pass : ℕ) (inside : pass < core.start.shape.passes) where
  abbrev s : State
  s = state_in core

  -- the state after one more step
  stepped : (step : Move) → state_in (with_move core pass step) ≡ moves core.start s pass step
  stepped step = run_push core.start core.log (record { pass = pass; step = step }) (opened core.start)

  -- one more step leaves the other passes as they are
  pub others_left : (step : Move) → Allowed core.start s (record { pass = pass; step = step }) → LeavesOthers core (with_move core pass step) pass
  others_left step allowed q ne =
      let event : Event = record { pass = pass; step = step } in
      let alone : IsLeftAlone core.start s (effect core.start s event) q = events_are_local core.start core.log legal.0 legal.1 event allowed q ne in (
        ap (λ (x : State). x.callers q) (stepped step) ∙ alone.caller,
        λ u. subst (λ (x : State). IsUnderway core.start x q) (sym (stepped step)) (u.0, ap has_come (alone.places u.0 1).stage ∙ u.1),
      )

  -- the next step of a call spends nothing, and makes no call
  pub step_keeps : HasCall core pass → counts_in (state_in (with_move core pass (next_move core.start s pass))) pass ≡ counts_in s pass
  step_keeps u =
      let step : Move = next_move core.start s pass in
      let all = log_owned core.start legal.0 core.log (opened core.start) (opened_whole core.start legal.0) (opened_counted core.start) (opened_owned core.start) legal.1 in
      ap (λ (x : State). counts_in x pass) (stepped step)
      ∙ moves_keep core.start legal.0 s all.0 all.1 all.2 pass inside u step (calls_always_go_on core.start core.log legal.0 legal.1 pass inside u).1

  pub step_left : HasCall core pass → left_of (with_move core pass (next_move core.start s pass)) pass ≡ left_of core pass
  step_left u = ap (λ (c : Counts). c.0) (step_keeps u)

  pub step_others : HasCall core pass → LeavesOthers core (with_move core pass (next_move core.start s pass)) pass
  step_others u = others_left (next_move core.start s pass) (calls_always_go_on core.start core.log legal.0 legal.1 pass inside u)

-- what a call by itself leaves
abbrev Leaves : CoreLog → CoreLog → ℕ → ℕ → Type 0
Leaves old new pass amount = (left_of new pass + amount ≡ left_of old pass) × LeavesOthers old new pass

module _ (core : CoreLog) (legal : IsLegal core) (pass : ℕ) (inside : pass < core.start.shape.passes) (idle : IsIdle core pass) where
  -- a call of one step
  one_leaves : (step : Move) (kind : Kind) (amount : ℕ) → moves core.start (state_in core) pass step ≡ makes core.start (state_in core) pass kind amount → amount ≤ left_of core pass
      → Allowed core.start (state_in core) (record { pass = pass; step = step }) → Leaves core (with_move core pass step) pass amount
  one_leaves step kind amount same le allowed = (
    subst (λ (x : State). left_in x pass + amount ≡ left_of core pass) (sym (stepped core legal pass inside step ∙ same)) (makes_left core.start (state_in core) pass kind amount le),
    others_left core legal pass inside step allowed,
  )

  abbrev loaded : CoreLog
  loaded = middle core legal pass inside idle

  abbrev now : State
  now = tried core legal pass inside idle

  -- a call that loads and exchanges
  two_leave : (kind : Kind) (amount : ℕ) → IsChange kind → MaySpend (state_in core) pass amount → Leaves core (with_moves core pass (exchange_moves kind amount)) pass amount
  two_leave kind amount change spend =
      let step : Move = Exchange kind amount in
      let s : State = state_in core in
      let after_load : IsLegal loaded = legal_move core legal pass (Load purpose.Try) (inside, inl idle) in
      let made : State = makes core.start now pass kind amount in
      let next : State = goes_to made pass Resting in
      let same : moves core.start now pass step ≡ next =
      ap (exchanged_by core.start now pass kind amount) (at core legal pass inside idle) ∙ ap (λ (t : Bool). if t then next else goes_to now pass Resting) (eq-eqb s.main s.main refl) in
      let before : left_in now pass ≡ left_in s pass = goes_left s pass (Trying s.main) in
      let enough : amount ≤ left_in s pass = spend.1 in
      let spent : left_in made pass + amount ≡ left_in now pass = makes_left core.start now pass kind amount (omega (arith, before, enough)) in
      let ended : left_in next pass ≡ left_in made pass = goes_left made pass Resting in
      let leaves : left_in next pass + amount ≡ left_in s pass = omega (arith, before, spent, ended) in (
        subst (λ (x : State). left_in x pass + amount ≡ left_of core pass)
            (sym (stepped loaded after_load pass inside step ∙ ap (λ (x : State). moves core.start x pass step) (here core legal pass inside idle) ∙ same)) leaves,
        others_then core loaded (with_move loaded pass step) pass (others_left core legal pass inside (Load purpose.Try) (inside, inl idle))
            (others_left loaded after_load pass inside step (exchange_allowed core legal pass inside idle kind amount change spend)),
      )

  add_leaves : (amount : ℕ) → MaySpend (state_in core) pass amount → (test : Bool) → (core.start.cap == no_cap) ≡ test → Leaves core (with_moves core pass (if test then Direct amount ∷ [] else exchange_moves kinds.Add amount)) pass amount
  add_leaves amount spend true high = one_leaves (Direct amount) kinds.Add amount refl spend.1 (inside, (idle, eqb-true core.start.cap no_cap high, spend))
  add_leaves amount spend false low = two_leave kinds.Add amount (inl refl) spend

  -- a call by itself spends its amount, and leaves the other passes alone
  pub own_leaves : (kind : Kind) (amount : ℕ) → MayOwn core pass kind amount → Leaves core (with_moves core pass (own_moves core.start.cap kind amount)) pass amount
  own_leaves kinds.Read amount none = subst (λ (a : ℕ). Leaves core (with_move core pass (Load purpose.Read)) pass a) (sym none) (one_leaves (Load purpose.Read) kinds.Read 0 refl (omega arith) (inside, idle))
  own_leaves kinds.Add amount spend = add_leaves amount spend (core.start.cap == no_cap) refl
  own_leaves kinds.Sub amount spend = two_leave kinds.Sub amount (inr refl) spend

  pub spends_so : (new : CoreLog) (kind : Kind) (amount : ℕ) → MayOwn core pass kind amount → (r : Result ℕ NoMemory) → IfOk r (λ _. new ≡ with_moves core pass (own_moves core.start.cap kind amount)) → IfOk r (λ _. left_of new pass + amount ≡ left_of core pass)
  spends_so new kind amount may (Ok reply) taken = subst (λ (x : CoreLog). left_of x pass + amount ≡ left_of core pass) (sym taken) (own_leaves kind amount may).0
  spends_so new kind amount may (Err e) taken = tt

  pub others_so : (new : CoreLog) (kind : Kind) (amount : ℕ) → MayOwn core pass kind amount → (r : Result ℕ NoMemory) → IfOk r (λ _. new ≡ with_moves core pass (own_moves core.start.cap kind amount)) → IfOk r (λ _. LeavesOthers core new pass)
  others_so new kind amount may (Ok reply) taken = subst (λ (x : CoreLog). LeavesOthers core x pass) (sym taken) (own_leaves kind amount may).1
  others_so new kind amount may (Err e) taken = tt

-- several steps of a pass leave the other passes as they are
pub moves_leave_others : (core : CoreLog) → IsLegal core → (pass : ℕ) → pass < core.start.shape.passes → (steps : List Move) → Legal core.start (events_of pass steps) (state_in core) → LeavesOthers core (with_moves core pass steps) pass
moves_leave_others core legal pass inside [] happen = λ q ne. (refl, λ u. u)
moves_leave_others core legal pass inside (step ∷ steps) happen =
    let next : CoreLog = with_move core pass step in
    let rest : Legal core.start (events_of pass steps) (state_in next) = subst (Legal core.start (events_of pass steps)) (sym (stepped core legal pass inside step)) happen.1 in
    others_then core next (with_moves next pass steps) pass (others_left core legal pass inside step happen.0)
    (moves_leave_others next (legal_move core legal pass step happen.0) pass inside steps rest)
