-- How calls enter the main word, and that they stay there.
use Rattle.std.proofs.Common.{◌≡◌, inl, inr, ℕ, zero, suc, ◌+◌, ◌≤◌, ◌<◌, List, [], ◌∷◌, ◌++◌, Bool, true, false, cond, refl, sym, ◌∙◌, ap, subst, arith, append_assoc}
use Rattle.std.specs.Prelude.{if◌then◌else◌, ◌==◌, sum_by, flat_map}
use Rattle.std.specs.List.{Contains}
use Rattle.std.proofs.lemmas.Bool.{eq-eqb, false≢true}
use Rattle.std.proofs.lemmas.List.{append-nil}
use Rattle.std.proofs.lemmas.List.Elements.{Contains-append_left, Contains-append_right}
use Rattle.std.proofs.lemmas.List.Sums.{sum_by-cons, sum_by-append}
use mathlib.Core.List.{IsPrefix}
use Rattle.fn_model.specs.declared.Call.{Call}
use Rattle.fn_model.specs.declared.Kind.{Kind}
use Rattle.fn_model.specs.declared.Kind.TheVariants as kinds
use Rattle.fn_model.specs.Arrivals.{Arrival, Own, Batch, Table, calls_of, expand, ArrivesAt, Grows}
use Rattle.fn_model.specs.Calls.{is_call}
use Rattle.fn_model.specs.Histories.{MainStep, OwnStep, BatchStep, Tables, calls_of_step, IsSoundStep}
use Rattle.fn_model.specs.Order.{own_calls, own_steps, with_arrival}
use Rattle.fn_model.proofs.Expansion.{boundary_within, expand_grows}
use Rattle.fn_model.proofs.Histories.{is_call_itself}
use Rattle.fn_model.proofs.Orderly.{grows_by_arrival, arrives_grows}
use Rattle.fn_rows.specs.declared.Stage.TheVariants.{Waiting}
use Rattle.fn_rows.proofs.Put.{put_here}
use Rattle.fn_core.specs.declared.Purpose.TheVariants as purpose
use Rattle.fn_core.specs.declared.Move.{Move}
use Rattle.fn_core.specs.declared.Move.TheVariants.{Scan, See, Announce, Arrive, Look, Close, Apply, Head, Fill, Point, Publish, Peek, Leave, Load, Exchange, Direct, Glance}
use Rattle.fn_core.specs.declared.Event.{Event}
use Rattle.fn_core.specs.Tree.{leaf, aggregator}
use Rattle.fn_core.specs.State.{Start, Position, Resting, Trying, Climbing, Caller, State, opened, history_in, stage, goes_to, next_call, lo_of, hi_of}
use Rattle.fn_core.specs.Machine.{IsStart, May, Legal, run, effect, moves, makes, applies, applied_by, filled_by, peeked_by, loaded_by, exchanged_by}
use Rattle.fn_core.specs.Calls.{CoreLog, state_in, calls_in, IsLegal}
use Rattle.fn_core.specs.Begin.{WaitsAtLeaf}
use Rattle.fn_core.specs.Entries.{IsAlone, IsBatched, EntriesStay, NoCallEntersTwice, DirectCallsAreAlone, FunnelledCallsAreBatched}
use Rattle.fn_core.proofs.Among.{Has, contains, has_flat_map, from_flat_map}
use Rattle.fn_core.proofs.Known.{Rides}
use Rattle.fn_core.proofs.Whole.{Whole, knows_at}
use Rattle.fn_core.proofs.Counted.{IsCounted}
use Rattle.fn_core.proofs.Laws.{holds, last_made, calls_stand_once}
use Rattle.fn_core.proofs.Follows.{legal_parts, run_parts}

-- arrivals and main steps have only grown
record HasGrown (tables : Tables) (steps : List MainStep) (newer : Tables) (longer : List MainStep) : Type 0 where
  pub arrivals : (kind : Kind) → Grows (tables kind) (newer kind)
  pub more : List MainStep
  pub behind : longer ≡ steps ++ more

same_grows : (table : Table) → Grows table table
same_grows table = record { further = λ level index. []; behind = λ level index. sym (append-nil (table level index)) }

grows_on : (a b c : Table) → Grows a b → Grows b c → Grows a c
grows_on a b c first second = record {
  further = λ level index. first.further level index ++ second.further level index;
  behind = λ level index. second.behind level index ∙ ap (λ (xs : List Arrival). xs ++ second.further level index) (first.behind level index) ∙ append_assoc (a level index) (first.further level index) (second.further level index);
}

still : (tables : Tables) (steps : List MainStep) → HasGrown tables steps tables steps
still tables steps = record { arrivals = λ kind. same_grows (tables kind); more = []; behind = sym (append-nil steps) }

one_entered : (tables : Tables) (steps : List MainStep) (step : MainStep) → HasGrown tables steps tables (steps ++ step ∷ [])
one_entered tables steps step = record { arrivals = λ kind. same_grows (tables kind); more = step ∷ []; behind = refl }

either_grown : (s : State) (test : Bool) (x y : State) → HasGrown s.arrivals s.steps x.arrivals x.steps → HasGrown s.arrivals s.steps y.arrivals y.steps → let z = if test then x else y in HasGrown s.arrivals s.steps z.arrivals z.steps
either_grown s true x y a b = a
either_grown s false x y a b = b

abbrev Grown : State → State → Type 0
Grown s next = HasGrown s.arrivals s.steps next.arrivals next.steps

module _ (start : Start) (s : State) (p : ℕ) where
  none : Grown s s
  none = still s.arrivals s.steps

  arrived : (kind : Kind) (level index : ℕ) (a : Arrival) (next : State) → next.arrivals ≡ with_arrival s.arrivals kind level index a → next.steps ≡ s.steps → Grown s next
  arrived kind level index a next e f = record {
    arrivals = λ k. subst (λ (x : Tables). Grows (s.arrivals k) (x k)) (sym e) (grows_by_arrival s.arrivals kind level index a k);
    more = [];
    behind = f ∙ sym (append-nil s.steps);
  }

  makes_grown : (kind : Kind) (amount : ℕ) → Grown s (makes start s p kind amount)
  makes_grown kind amount = one_entered s.arrivals s.steps (OwnStep (next_call s p kind amount))

  applies_grown : (kind : Kind) (level amount : ℕ) → Grown s (applies start s p kind level amount)
  applies_grown kind level amount = one_entered s.arrivals s.steps (BatchStep kind (aggregator start.shape p level) (lo_of (stage start s kind level p)) (hi_of (stage start s kind level p)))

  moves_grown : (step : Move) → May start s p step → Grown s (moves start s p step)
  moves_grown (Scan kind level other) may = none
  moves_grown (See kind level) may = none
  moves_grown (Announce kind level) may = none
  moves_grown (Arrive kind zero weight) may = none
  moves_grown (Arrive kind (suc zero) weight) may = arrived kind 1 (aggregator start.shape p 1) (Own (next_call s p kind weight)) (moves start s p (Arrive kind 1 weight)) refl refl
  moves_grown (Arrive kind (suc (suc below)) weight) may = arrived kind (suc (suc below)) (aggregator start.shape p (suc (suc below))) (Batch (aggregator start.shape p (suc below)) (lo_of (stage start s kind (suc below) p)) (hi_of (stage start s kind (suc below) p)))
      (moves start s p (Arrive kind (suc (suc below)) weight)) refl refl
  moves_grown (Look kind level) may = none
  moves_grown (Close kind level) may = none
  moves_grown (Apply weight) may = subst (λ (x : Position). Grown s (applied_by start s p weight x)) (sym may.1) (applies_grown kinds.Add may.0 weight)
  moves_grown (Head kind level) may = none
  moves_grown (Fill row field) may = subst (λ (x : Position). Grown s (filled_by start s p row field x)) (sym may.3.0) none
  moves_grown (Point kind level row) may = none
  moves_grown (Publish kind level) may = none
  moves_grown (Peek row field) may = subst (λ (x : Position). Grown s (peeked_by start s p x)) (sym may.2.0) none
  moves_grown (Leave kind zero) may = none
  moves_grown (Leave kind (suc zero)) may = none
  moves_grown (Leave kind (suc (suc below))) may = none
  moves_grown (Load purpose.Try) (inl is) = subst (λ (x : Position). Grown s (loaded_by s p x)) (sym is) none
  moves_grown (Load purpose.Try) (inr may) = subst (λ (x : Position). Grown s (loaded_by s p x)) (sym may.2) none
  moves_grown (Load purpose.Read) is = makes_grown kinds.Read 0
  moves_grown (Exchange kind amount) (inl may) = subst (λ (x : Position). Grown s (exchanged_by start s p kind amount x)) (sym may.1)
      (either_grown s (s.main == may.0) (goes_to (makes start s p kind amount) p Resting) (goes_to s p Resting) (makes_grown kind amount) none)
  moves_grown (Exchange kind amount) (inr may) = subst (λ (x : Position). Grown s (exchanged_by start s p kind amount x)) (sym may.2)
      (either_grown s (s.main == may.1) (goes_to (applies start s p kind may.0 amount) p (Climbing kind may.0)) (goes_to s p (Climbing kind may.0)) (applies_grown kind may.0 amount) none)
  moves_grown (Direct amount) may = makes_grown kinds.Add amount
  moves_grown Glance may = none

log_grown : (start : Start) (later : List Event) (s : State) → Legal start later s → Grown s (run start later s)
log_grown start [] s legal = still s.arrivals s.steps
log_grown start (event ∷ later) s legal =
    let next : State = effect start s event in
    let end : State = run start later next in
    let first = moves_grown start s event.pass event.step legal.0.1 in
    let rest = log_grown start later next legal.1 in
    record {
      arrivals = λ kind. grows_on (s.arrivals kind) (next.arrivals kind) (end.arrivals kind) (first.arrivals kind) (rest.arrivals kind);
      more = first.more ++ rest.more;
      behind = rest.behind ∙ ap (λ (xs : List MainStep). xs ++ rest.more) first.behind ∙ append_assoc s.steps first.more rest.more;
    }

-- an item of a list is one of it
has_contained : {A : Type 0} (xs : List A) (x : A) → Contains xs x → Has xs x
has_contained [] x (k, less, is) = absurd (omega arith)
has_contained (y ∷ ys) x (zero, less, is) = inl (sym is)
has_contained (y ∷ ys) x (suc k, less, is) = inr (has_contained ys x (k, omega (arith, less), is))

-- a batch that has entered stands for the same calls when more has arrived
module _ (start : Start) (s next : State) (w : Whole start s) (grown : Grown s next) where
  alone_stays : (call : Call) → Contains s.steps (OwnStep call) → Contains next.steps (OwnStep call)
  alone_stays call entered = subst (λ (xs : List MainStep). Contains xs (OwnStep call)) (sym grown.behind) (Contains-append_left s.steps grown.more (OwnStep call) entered)

  batch_stays : (kind : Kind) (index lo hi : ℕ) → Contains s.steps (BatchStep kind index lo hi) → Contains next.steps (BatchStep kind index lo hi) × (expand (next.arrivals kind) start.shape.levels index lo hi ≡ expand (s.arrivals kind) start.shape.levels index lo hi)
  batch_stays kind index lo hi entered =
      let step : MainStep = BatchStep kind index lo hi in
      let sound : IsSoundStep s.arrivals start.shape.levels step = subst (IsSoundStep s.arrivals start.shape.levels) entered.2 (w.good.orderly.sound_steps entered.0 step entered.1) in (
        subst (λ (xs : List MainStep). Contains xs step) (sym grown.behind) (Contains-append_left s.steps grown.more step entered),
        expand_grows kind (s.arrivals kind) (next.arrivals kind) (w.good.orderly.formed kind) (grown.arrivals kind) start.shape.levels index lo hi (boundary_within (s.arrivals kind start.shape.levels index) hi sound.2),
      )

-- from a log to one that goes on
module _ (start : Start) (log later : List Event) (ok : IsStart start) (legal : Legal start (log ++ later) (opened start)) where
  abbrev old : CoreLog
  old = record { start = start; log = log }

  abbrev new : CoreLog
  new = record { start = start; log = log ++ later }

  parts : Legal start log (opened start) × Legal start later (state_in old)
  parts = legal_parts start log later (opened start) legal

  grown_here : Grown (state_in old) (state_in new)
  grown_here = subst (λ (s : State). Grown (state_in old) s) (sym (run_parts start log later (opened start))) (log_grown start later (state_in old) parts.1)

  whole_here : Whole start (state_in old) × IsCounted start (state_in old)
  whole_here = holds start log ok parts.0

  stays_here : (call : Call) → (IsAlone old call → IsAlone new call) × (IsBatched old call → IsBatched new call)
  stays_here call = (
    alone_stays start (state_in old) (state_in new) whole_here.0 grown_here call,
    λ b.
        let both = batch_stays start (state_in old) (state_in new) whole_here.0 grown_here b.kind b.index b.lo b.hi b.entered in
        record { kind = b.kind; index = b.index; lo = b.lo; hi = b.hi; entered = both.0; among = subst (λ (calls : List Call). Contains calls call) (sym both.1) b.among },
  )

new_is : (old new : CoreLog) (same : new.start ≡ old.start) (begins : IsPrefix old.log new.log) → new ≡ record { start = old.start; log = old.log ++ begins.0 }
new_is earlier longer same begins = λ i. record { start = same i; log = sym begins.1 i }

pub entries_stay : EntriesStay
entries_stay old new legal same begins call =
    let is = new_is old new same begins in
    let here : IsLegal (record { start = old.start; log = old.log ++ begins.0 }) = subst IsLegal is legal in
    subst (λ (core : CoreLog). (IsAlone old call → IsAlone core call) × (IsBatched old call → IsBatched core call)) (sym is) (stays_here old.start old.log begins.0 here.0 here.1 call)

-- the call that enters last
enters_last : (next : State) (steps : List MainStep) (p : ℕ) (call : Call) → next.steps ≡ steps ++ OwnStep call ∷ [] → (next.callers p).last ≡ call → Contains next.steps (OwnStep (next.callers p).last)
enters_last next steps p call entered last =
    subst (λ (xs : List MainStep). Contains xs (OwnStep (next.callers p).last)) (sym entered)
    (Contains-append_right steps (OwnStep call ∷ []) (OwnStep (next.callers p).last) (0, omega arith, ap OwnStep (sym last)))

module _ (start : Start) (ok : IsStart start) (s : State) (w : Whole start s) (c : IsCounted start s) (p : ℕ) (range : p < start.shape.passes) where
  abbrev After : State → Type 0
  After next = Contains next.steps (OwnStep (next.callers p).last)

  call_enters : (kind : Kind) (amount : ℕ) → After (makes start s p kind amount)
  call_enters kind amount = enters_last (makes start s p kind amount) s.steps p (next_call s p kind amount) refl (last_made start ok s w c p range kind amount)

  exchange_enters : (kind : Kind) (amount word : ℕ) → (s.callers p).position ≡ Trying word → s.main ≡ word → After (moves start s p (Exchange kind amount))
  exchange_enters kind amount word is won =
      let made : State = makes start s p kind amount in
      let next : State = goes_to made p Resting in
      let same : exchanged_by start s p kind amount (s.callers p).position ≡ next =
      ap (exchanged_by start s p kind amount) is ∙ ap (λ (t : Bool). if t then next else goes_to s p Resting) (eq-eqb s.main word won) in
      let last : (next.callers p).last ≡ next_call s p kind amount = ap (λ (x : Caller). x.last) (put_here made.callers p (record (made.callers p) { position = Resting }) p refl) ∙ last_made start ok s w c p range kind amount in
      subst After (sym same) (enters_last next s.steps p (next_call s p kind amount) refl last)

pub direct_calls_are_alone : DirectCallsAreAlone
direct_calls_are_alone start log ok legal event allowed =
    let s : State = run start log (opened start) in
    let both = holds start log ok legal in
    let p : ℕ = event.pass in
    let Enters : Move → Type 0 = λ step. Contains (moves start s p step).steps (OwnStep ((moves start s p step).callers p).last) in (
      (λ e. subst Enters (sym e) (call_enters start ok s both.0 both.1 p allowed.0 kinds.Read 0)),
      (λ amount e. subst Enters (sym e) (call_enters start ok s both.0 both.1 p allowed.0 kinds.Add amount)),
      (λ kind amount word e is won. subst Enters (sym e) (exchange_enters start ok s both.0 both.1 p allowed.0 kind amount word is won)),
    )

-- an item of a list adds what it gives to the sum
has_sum : (f : Call → ℕ) (xs : List Call) (x : Call) → Has xs x → f x ≤ sum_by f xs
has_sum f [] x has = absurd has
has_sum f (y ∷ ys) x (inl here) = let same : f x ≡ f y = ap f here in omega (arith, same, sum_by-cons f y ys)
has_sum f (y ∷ ys) x (inr later) = omega (arith, has_sum f ys x later, sum_by-cons f y ys)

own_call : Call → MainStep → Call
own_call other (OwnStep call) = call
own_call other (BatchStep kind index lo hi) = other

is_batch : MainStep → Bool
is_batch (OwnStep call) = false
is_batch (BatchStep kind index lo hi) = true

own_is : (call other : Call) → OwnStep call ≡ OwnStep other → call ≡ other
unfolding own_call
own_is call other same = ap (own_call call) same

no_batch : (call : Call) (kind : Kind) (index lo hi : ℕ) → OwnStep call ≡ BatchStep kind index lo hi → ⊥
unfolding is_batch
no_batch call kind index lo hi same = false≢true (ap is_batch same)

-- a call that entered by itself is among the calls that did
has_own_step : (steps : List MainStep) (call : Call) → Has steps (OwnStep call) → Has (own_steps steps) call
has_own_step [] call has = absurd has
has_own_step (OwnStep other ∷ steps) call (inl here) = inl (own_is call other here)
has_own_step (OwnStep other ∷ steps) call (inr later) = inr (has_own_step steps call later)
has_own_step (BatchStep kind index lo hi ∷ steps) call (inl here) = absurd (no_batch call kind index lo hi here)
has_own_step (BatchStep kind index lo hi ∷ steps) call (inr later) = has_own_step steps call later

-- one of three
of_kind : (f : Kind → ℕ) (kind : Kind) → f kind ≤ f kinds.Add + (f kinds.Sub + f kinds.Read)
of_kind f kinds.Add = omega arith
of_kind f kinds.Sub = omega arith
of_kind f kinds.Read = omega arith

module _ (start : Start) (s : State) (c : IsCounted start s) (kind : Kind) (call : Call) where
  -- a call that arrived at its leaf didn't enter by itself
  not_alone : Has (s.arrivals kind 1 (leaf start.shape call.pass)) (Own call) → Has s.steps (OwnStep call) → ⊥
  not_alone arrived entered =
      let tick : Call → ℕ = λ x. cond (is_call call.pass call.number x) 1 0 in
      let one : tick call ≡ 1 = ap (λ (b : Bool). cond b 1 0) (is_call_itself call) in
      let there : ℕ = sum_by tick (own_calls (s.arrivals kind 1 (leaf start.shape call.pass))) in
      let main : tick call ≤ sum_by tick (own_steps s.steps) = has_sum tick (own_steps s.steps) call (has_own_step s.steps call entered) in
      let at_leaf : tick call ≤ there = has_sum tick (own_calls (s.arrivals kind 1 (leaf start.shape call.pass))) call (has_flat_map (calls_of (λ index lo hi. [])) (s.arrivals kind 1 (leaf start.shape call.pass)) (Own call) call arrived (inl refl)) in
      let all = of_kind (λ k. sum_by tick (own_calls (s.arrivals k 1 (leaf start.shape call.pass)))) kind in
      omega (arith, one, main, at_leaf, all, c.once call.pass call.number)

  batched_by : Has (s.arrivals kind 1 (leaf start.shape call.pass)) (Own call) → (step : MainStep) → Has s.steps step → Has (calls_of_step s.arrivals start.shape.levels step) call
      → (k : Kind) × (index lo hi : ℕ) × Contains s.steps (BatchStep k index lo hi) × Contains (expand (s.arrivals k) start.shape.levels index lo hi) call
  batched_by arrived (OwnStep other) entered (inl here) = absurd (not_alone arrived (subst (λ (x : Call). Has s.steps (OwnStep x)) (sym here) entered))
  batched_by arrived (OwnStep other) entered (inr never) = absurd never
  batched_by arrived (BatchStep k index lo hi) entered among = (k, index, lo, hi, contains s.steps (BatchStep k index lo hi) entered, contains (expand (s.arrivals k) start.shape.levels index lo hi) call among)

-- what arrives at an offset is one of the arrivals
has_arrived : (earlier later : List Arrival) (a : Arrival) → Has (earlier ++ a ∷ later) a
has_arrived [] later a = inl refl
has_arrived (x ∷ earlier) later a = inr (has_arrived earlier later a)

arrived_own : (arrivals : List Arrival) (call : Call) (at : ℕ) → Rides arrivals (λ a. a ≡ Own call) at → ArrivesAt arrivals at (Own call)
arrived_own arrivals call at rides = subst (λ (a : Arrival). ArrivesAt arrivals at a) rides.1 rides.2

still_arrived : (old new : Table) (index at : ℕ) (call : Call) → Grows old new → ArrivesAt (old 1 index) at (Own call) → Has (new 1 index) (Own call)
still_arrived old new index at call grows here =
    let there : ArrivesAt (new 1 index) at (Own call) = subst (λ (xs : List Arrival). ArrivesAt xs at (Own call)) (sym (grows.behind 1 index)) (arrives_grows (old 1 index) (grows.further 1 index) at (Own call) here) in
    subst (λ (xs : List Arrival). Has xs (Own call)) (sym there.order) (has_arrived there.earlier there.later (Own call))

batched_here : (start : Start) (log later : List Event) → IsStart start → Legal start (log ++ later) (opened start) → (pass : ℕ) (kind : Kind)
    → let old : CoreLog = record { start = start; log = log } in
    let new : CoreLog = record { start = start; log = log ++ later } in
    WaitsAtLeaf old pass kind → let call = ((state_in old).callers pass).last in Contains (calls_in new) call → IsBatched new call
batched_here start log later ok legal pass kind waits among =
    let s : State = run start log (opened start) in
    let next : State = run start (log ++ later) (opened start) in
    let both = whole_here start log later ok legal in
    let grown = grown_here start log later ok legal in
    let call : Call = (s.callers pass).last in
    let rides = knows_at start ok s both.0 pass kind 0 (Waiting waits.offset) waits.waits in
    let at = arrived_own (s.arrivals kind 1 (leaf start.shape pass)) call waits.offset rides in
    let has = still_arrived (s.arrivals kind) (next.arrivals kind) (leaf start.shape pass) waits.offset call (grown.arrivals kind) at in
    let mine : Has (next.arrivals kind 1 (leaf start.shape call.pass)) (Own call) = subst (λ (n : ℕ). Has (next.arrivals kind 1 (leaf start.shape n)) (Own call)) (sym (both.1.last pass).0) has in
    let step = from_flat_map (calls_of_step next.arrivals start.shape.levels) next.steps call (has_contained (history_in start next) call among) in
    let batch = batched_by start next (holds start (log ++ later) ok legal).1 kind call mine step.0 step.1 step.2 in
    record { kind = batch.0; index = batch.1; lo = batch.2; hi = batch.3; entered = batch.4; among = batch.5 }

pub funnelled_calls_are_batched : FunnelledCallsAreBatched
funnelled_calls_are_batched old new legal same begins pass kind waits =
    let is = new_is old new same begins in
    let call : Call = ((state_in old).callers pass).last in
    let here : IsLegal (record { start = old.start; log = old.log ++ begins.0 }) = subst IsLegal is legal in
    subst (λ (core : CoreLog). Contains (calls_in core) call → IsBatched core call) (sym is) (batched_here old.start old.log begins.0 here.0 here.1 pass kind waits)

-- a main step adds its calls to the history
one_among : (f : Call → ℕ) (F : MainStep → List Call) (steps : List MainStep) (a : MainStep) → Has steps a → sum_by f (F a) ≤ sum_by f (flat_map F steps)
one_among f F [] a has = absurd has
one_among f F (x ∷ steps) a (inl here) = let same : sum_by f (F a) ≡ sum_by f (F x) = ap (λ (m : MainStep). sum_by f (F m)) here in omega (arith, same, sum_by-append f (F x) (flat_map F steps))
one_among f F (x ∷ steps) a (inr later) = omega (arith, one_among f F steps a later, sum_by-append f (F x) (flat_map F steps))

-- and so do two
two_among : (f : Call → ℕ) (F : MainStep → List Call) (steps : List MainStep) (a b : MainStep) → (a ≡ b → ⊥) → Has steps a → Has steps b → sum_by f (F a) + sum_by f (F b) ≤ sum_by f (flat_map F steps)
two_among f F [] a b apart has other = absurd has
two_among f F (x ∷ steps) a b apart (inl here) (inl there) = absurd (apart (here ∙ sym there))
two_among f F (x ∷ steps) a b apart (inl here) (inr later) = let same : sum_by f (F a) ≡ sum_by f (F x) = ap (λ (m : MainStep). sum_by f (F m)) here in omega (arith, same, one_among f F steps b later, sum_by-append f (F x) (flat_map F steps))
two_among f F (x ∷ steps) a b apart (inr later) (inl there) = let same : sum_by f (F b) ≡ sum_by f (F x) = ap (λ (m : MainStep). sum_by f (F m)) there in omega (arith, same, one_among f F steps a later, sum_by-append f (F x) (flat_map F steps))
two_among f F (x ∷ steps) a b apart (inr later) (inr other) = omega (arith, two_among f F steps a b apart later other, sum_by-append f (F x) (flat_map F steps))

pub no_call_enters_twice : NoCallEntersTwice
no_call_enters_twice core legal call alone batched =
    let s : State = state_in core in
    let tick : Call → ℕ = λ x. cond (is_call call.pass call.number x) 1 0 in
    let F : MainStep → List Call = calls_of_step s.arrivals core.start.shape.levels in
    let batch : MainStep = BatchStep batched.kind batched.index batched.lo batched.hi in
    let one : tick call ≡ 1 = ap (λ (b : Bool). cond b 1 0) (is_call_itself call) in
    let by_itself : tick call ≤ sum_by tick (F (OwnStep call)) = has_sum tick (call ∷ []) call (inl refl) in
    let in_batch : tick call ≤ sum_by tick (F batch) = has_sum tick (F batch) call (has_contained (F batch) call batched.among) in
    let both = two_among tick F s.steps (OwnStep call) batch (no_batch call batched.kind batched.index batched.lo batched.hi) (has_contained s.steps (OwnStep call) alone) (has_contained s.steps batch batched.entered) in
    omega (arith, one, by_itself, in_batch, both, (calls_stand_once core.start core.log legal.0 legal.1 call.pass call.number).0)
