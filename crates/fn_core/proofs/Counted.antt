-- Each call has arrived once, and each pass has spent what its allowance lost.
use Rattle.std.proofs.Common.{◌≡◌, inl, inr, ℕ, zero, suc, ◌+◌, ◌<◌, ◌≤◌, List, [], ◌∷◌, ◌++◌, Bool, true, false, cond, refl, sym, ◌∙◌, ap, subst, arith}
use Rattle.std.specs.Prelude.{◌==◌, get_or, if◌then◌else◌}
use Rattle.std.proofs.lemmas.Bool.{cases_eq, eq-eqb}
use Rattle.std.proofs.lemmas.Bool.Decides.{nat_tests}
use Rattle.std.proofs.lemmas.List.Elements.{All-nil, All-cons}
use Rattle.fn_model.specs.declared.Call.{Call}
use Rattle.fn_model.specs.declared.Kind.{Kind}
use Rattle.fn_model.specs.declared.Kind.TheVariants as kinds
use Rattle.fn_model.specs.Arrivals.{Arrival, Own, Batch}
use Rattle.fn_model.specs.Calls.{is_call}
use Rattle.fn_model.specs.Histories.{MainStep, OwnStep, BatchStep, Tables}
use Rattle.fn_model.specs.Order.{with_arrival, arrival_sum, arrival_count, amount_of_pass, amount_spent, EachCall, OnlyOf}
use Rattle.fn_model.proofs.Arrived.{arrival_sum-with_arrival, arrival_sum-push}
use Rattle.fn_model.proofs.Once.{only_call, only_amount, sum-one}
use Rattle.fn_model.proofs.Orderly.{each_call_at_first, each_call_arrival, each_call_step}
use Rattle.fn_rows.specs.Machine.{put}
use Rattle.fn_rows.proofs.Put.{put_case}
use Rattle.fn_core.specs.declared.Purpose.TheVariants as purpose
use Rattle.fn_core.specs.declared.Move.{Move}
use Rattle.fn_core.specs.declared.Move.TheVariants.{Scan, See, Announce, Arrive, Look, Close, Apply, Head, Fill, Point, Publish, Peek, Leave, Load, Exchange, Direct, Glance}
use Rattle.fn_core.specs.declared.Event.{Event}
use Rattle.fn_core.specs.Tree.{leaf, parent, aggregator}
use Rattle.fn_core.specs.State.{Start, Position, Resting, Trying, Climbing, Deciding, Caller, State, opened, stage, goes_to, after_call, next_call, lo_of, hi_of}
use Rattle.fn_core.specs.Machine.{IsStart, May, Legal, run, effect, moves, makes, applies, applied_by, filled_by, peeked_by, loaded_by, exchanged_by}
use Rattle.fn_core.proofs.Whole.{Whole}
use Rattle.fn_core.proofs.Arrives.{sound}
use Rattle.fn_core.proofs.Log.{moves_keep}

-- a pass's calls so far have arrived once each, and no later one has; what it has spent and what is left make its allowance
pub record Counted (start : Start) (tables : Tables) (steps : List MainStep) (callers : ℕ → Caller) : Type 0 where
  pub none : (p number : ℕ) → (callers p).made ≤ number → arrival_count p number (leaf start.shape) tables steps ≡ 0
  pub once : (p number : ℕ) → arrival_count p number (leaf start.shape) tables steps ≤ 1
  pub spent : (p : ℕ) → amount_spent p (leaf start.shape) tables steps + (callers p).left ≡ get_or start.allowances p 0
  pub each : EachCall (λ call. call.pass < start.shape.passes) tables steps
  pub last : (p : ℕ) → ((callers p).last.pass ≡ p) × (1 ≤ (callers p).made → suc (callers p).last.number ≡ (callers p).made)

abbrev pub IsCounted : Start → State → Type 0
IsCounted start s = Counted start s.arrivals s.steps s.callers

-- how often a call is this pass's call of that number
abbrev tick : ℕ → ℕ → Call → ℕ
tick p number call = cond (is_call p number call) 1 0

tick_most : (b : Bool) → cond b 1 0 ≤ 1
tick_most true = omega arith
tick_most false = omega arith

tick_other : (p number : ℕ) (call : Call) → (call.number ≡ number → ⊥) → tick p number call ≡ 0
tick_other p number call ne =
    let test : is_call p number call ≡ false = grind (arith, nat_tests) in
    ap (λ (b : Bool). cond b 1 0) test

module _ (start : Start) (tables : Tables) (steps : List MainStep) (callers : ℕ → Caller) (c : Counted start tables steps callers) where
  -- one more call, by an arrival or by a main step of its own
  counted_call : (newer : Tables) (longer : List MainStep) (p : ℕ) (call : Call) → call.pass ≡ p → call.number ≡ (callers p).made → call.amount ≤ (callers p).left
      → ((q : ℕ) (size : Call → ℕ) → OnlyOf q size → arrival_sum size q (leaf start.shape) newer longer ≡ arrival_sum size q (leaf start.shape) tables steps + size call)
      → EachCall (λ call. call.pass < start.shape.passes) newer longer → Counted start newer longer (put callers p (after_call (callers p) call))
  counted_call newer longer p call by number most adds each = record {
    none = λ q n. put_case (λ (x : Caller). x.made ≤ n → arrival_count q n (leaf start.shape) newer longer ≡ 0) callers p (after_call (callers p) call) q
        (λ is le. let old : arrival_count q n (leaf start.shape) tables steps ≡ 0 = c.none q n (let made : (callers q).made ≡ (callers p).made = ap (λ (i : ℕ). (callers i).made) is in omega arith) in
        let zero_tick : tick q n call ≡ 0 = tick_other q n call (λ e. omega (arith, e)) in
        omega (arith, adds q (tick q n) (only_call q n)))
        (λ other le. let zero_tick : tick q n call ≡ 0 = only_call q n call (λ e. other (sym e ∙ by)) in
        omega (arith, adds q (tick q n) (only_call q n), c.none q n le));
    once = λ q n. elim (cases_eq q p) [
      | inr other ↦ let zero_tick : tick q n call ≡ 0 = only_call q n call (λ e. other (sym e ∙ by)) in omega (arith, adds q (tick q n) (only_call q n), c.once q n)
      | inl is ↦ elim (cases_eq call.number n) [
        | inr other ↦ let zero_tick : tick q n call ≡ 0 = tick_other q n call other in omega (arith, adds q (tick q n) (only_call q n), c.once q n)
        | inl same ↦
            let old : arrival_count q n (leaf start.shape) tables steps ≡ 0 = c.none q n (let made : (callers q).made ≡ (callers p).made = ap (λ (i : ℕ). (callers i).made) is in omega arith) in
            omega (arith, adds q (tick q n) (only_call q n), tick_most (is_call q n call))
      ]
    ];
    spent = λ q. put_case (λ (x : Caller). amount_spent q (leaf start.shape) newer longer + x.left ≡ get_or start.allowances q 0) callers p (after_call (callers p) call) q
        (λ is. let all : amount_of_pass q call ≡ call.amount = ap (λ (b : Bool). cond b call.amount 0) (eq-eqb call.pass q (by ∙ sym is)) in
        let lefts : (callers q).left ≡ (callers p).left = ap (λ (i : ℕ). (callers i).left) is in
        omega (arith, adds q (amount_of_pass q) (only_amount q), c.spent q))
        (λ other. let none : amount_of_pass q call ≡ 0 = only_amount q call (λ e. other (sym e ∙ by)) in
        omega (arith, adds q (amount_of_pass q) (only_amount q), c.spent q));
    each = each;
    last = λ q. put_case (λ (x : Caller). (x.last.pass ≡ q) × (1 ≤ x.made → suc x.last.number ≡ x.made)) callers p (after_call (callers p) call) q (λ is. (by ∙ sym is, λ some. ap suc number)) (λ other. c.last q);
  }

  -- a batch adds no call
  counted_batch : (newer : Tables) (longer : List MainStep) → ((q : ℕ) (size : Call → ℕ) → OnlyOf q size → arrival_sum size q (leaf start.shape) newer longer ≡ arrival_sum size q (leaf start.shape) tables steps) → EachCall (λ call. call.pass < start.shape.passes) newer longer → Counted start newer longer callers
  counted_batch newer longer same each = record {
    none = λ q n le. same q (tick q n) (only_call q n) ∙ c.none q n le;
    once = λ q n. omega (arith, same q (tick q n) (only_call q n), c.once q n);
    spent = λ q. omega (arith, same q (amount_of_pass q) (only_amount q), c.spent q);
    each = each;
    last = c.last;
  }

  -- another position changes nothing
  counted_goes : (p : ℕ) (position : Position) → Counted start tables steps (put callers p (record (callers p) { position = position }))
  counted_goes p position = record {
    none = λ q n. put_case (λ (x : Caller). x.made ≤ n → arrival_count q n (leaf start.shape) tables steps ≡ 0) callers p (record (callers p) { position = position }) q
        (λ is le. c.none q n (let made : (callers q).made ≡ (callers p).made = ap (λ (i : ℕ). (callers i).made) is in omega arith)) (λ other le. c.none q n le);
    once = c.once;
    spent = λ q. put_case (λ (x : Caller). amount_spent q (leaf start.shape) tables steps + x.left ≡ get_or start.allowances q 0) callers p (record (callers p) { position = position }) q
        (λ is. let lefts : (callers q).left ≡ (callers p).left = ap (λ (i : ℕ). (callers i).left) is in omega (arith, c.spent q)) (λ other. c.spent q);
    each = c.each;
    last = λ q. put_case (λ (x : Caller). (x.last.pass ≡ q) × (1 ≤ x.made → suc x.last.number ≡ x.made)) callers p (record (callers p) { position = position }) q (λ is. subst (λ (i : ℕ). ((callers i).last.pass ≡ q) × (1 ≤ (callers i).made → suc (callers i).last.number ≡ (callers i).made)) is (c.last q)) (λ other. c.last q);
  }

either : (start : Start) (test : Bool) (x y : State) → IsCounted start x → IsCounted start y → IsCounted start (if test then x else y)
either start true x y a b = a
either start false x y a b = b

module _ (start : Start) (ok : IsStart start) (s : State) (w : Whole start s) (c : IsCounted start s) (p : ℕ) (range : p < start.shape.passes) where
  -- a call by itself
  makes_counts : (kind : Kind) (amount : ℕ) → amount ≤ (s.callers p).left → IsCounted start (makes start s p kind amount)
  makes_counts kind amount most =
      let call : Call = next_call s p kind amount in
      counted_call start s.arrivals s.steps s.callers c s.arrivals (s.steps ++ OwnStep call ∷ []) p call refl refl most
      (λ q size only. omega (arith, arrival_sum-push q size (leaf start.shape) s.arrivals s.steps (OwnStep call), sum-one size call))
      (each_call_step (λ call. call.pass < start.shape.passes) s.arrivals s.steps (OwnStep call) c.each (All-cons (λ call. call.pass < start.shape.passes) call [] range (All-nil (λ call. call.pass < start.shape.passes))))

  applies_counts : (kind : Kind) (level amount : ℕ) → IsCounted start (applies start s p kind level amount)
  applies_counts kind level amount =
      let step : MainStep = BatchStep kind (aggregator start.shape p level) (lo_of (stage start s kind level p)) (hi_of (stage start s kind level p)) in
      counted_batch start s.arrivals s.steps s.callers c s.arrivals (s.steps ++ step ∷ [])
      (λ q size only. omega (arith, arrival_sum-push q size (leaf start.shape) s.arrivals s.steps step))
      (each_call_step (λ call. call.pass < start.shape.passes) s.arrivals s.steps step c.each (All-nil (λ call. call.pass < start.shape.passes)))

  pub counts_keep : (step : Move) → May start s p step → IsCounted start (moves start s p step)
  counts_keep (Scan kind level other) may = c
  counts_keep (See kind level) may = counted_goes start s.arrivals s.steps s.callers c p (Climbing kind level)
  counts_keep (Announce kind level) may = c
  counts_keep (Arrive kind zero weight) may = c
  counts_keep (Arrive kind (suc zero) weight) may =
      let call : Call = next_call s p kind weight in
      let index : ℕ = aggregator start.shape p 1 in
      counted_call start s.arrivals s.steps s.callers c (with_arrival s.arrivals kind 1 index (Own call)) s.steps p call refl refl may.1.1
      (λ q size only. omega (arith, arrival_sum-with_arrival q size only (leaf start.shape) parent s.arrivals s.steps kind 0 index (Own call) (refl, refl, may.1.0) refl, sum-one size call))
      (each_call_arrival (λ call. call.pass < start.shape.passes) s.arrivals s.steps kind 1 index (Own call) c.each range)
  counts_keep (Arrive kind (suc (suc below)) weight) may =
      let index : ℕ = aggregator start.shape p (suc (suc below)) in
      let batch : Arrival = Batch (aggregator start.shape p (suc below)) (lo_of (stage start s kind (suc below) p)) (hi_of (stage start s kind (suc below) p)) in
      counted_batch start s.arrivals s.steps s.callers c (with_arrival s.arrivals kind (suc (suc below)) index batch) s.steps
      (λ q size only. omega (arith, arrival_sum-with_arrival q size only (leaf start.shape) parent s.arrivals s.steps kind (suc below) index batch (sound start ok s w p range kind weight below may.0 may.1) refl))
      (each_call_arrival (λ call. call.pass < start.shape.passes) s.arrivals s.steps kind (suc (suc below)) index batch c.each tt)
  counts_keep (Look kind level) may = c
  counts_keep (Close kind level) may = c
  counts_keep (Apply weight) may = subst (λ (x : Position). IsCounted start (applied_by start s p weight x)) (sym may.1) (applies_counts kinds.Add may.0 weight)
  counts_keep (Head kind level) may = c
  counts_keep (Fill row field) may = subst (λ (x : Position). IsCounted start (filled_by start s p row field x)) (sym may.3.0) c
  counts_keep (Point kind level row) may = c
  counts_keep (Publish kind level) may = c
  counts_keep (Peek row field) may = subst (λ (x : Position). IsCounted start (peeked_by start s p x)) (sym may.2.0) c
  counts_keep (Leave kind zero) may = c
  counts_keep (Leave kind (suc zero)) may = counted_goes start s.arrivals s.steps s.callers c p Resting
  counts_keep (Leave kind (suc (suc below))) may = counted_goes start s.arrivals s.steps s.callers c p (Climbing kind (suc below))
  counts_keep (Load purpose.Try) (inl is) = subst (λ (x : Position). IsCounted start (loaded_by s p x)) (sym is) (counted_goes start s.arrivals s.steps s.callers c p (Trying s.main))
  counts_keep (Load purpose.Try) (inr may) = subst (λ (x : Position). IsCounted start (loaded_by s p x)) (sym may.2) (counted_goes start s.arrivals s.steps s.callers c p (Deciding may.0 may.1 s.main))
  counts_keep (Load purpose.Read) is = makes_counts kinds.Read 0 (omega arith)
  counts_keep (Exchange kind amount) (inl may) = subst (λ (x : Position). IsCounted start (exchanged_by start s p kind amount x)) (sym may.1)
      (let made : State = makes start s p kind amount in
      either start (s.main == may.0) (goes_to made p Resting) (goes_to s p Resting)
      (counted_goes start made.arrivals made.steps made.callers (makes_counts kind amount may.3.1) p Resting)
      (counted_goes start s.arrivals s.steps s.callers c p Resting))
  counts_keep (Exchange kind amount) (inr may) = subst (λ (x : Position). IsCounted start (exchanged_by start s p kind amount x)) (sym may.2)
      (let applied : State = applies start s p kind may.0 amount in
      either start (s.main == may.1) (goes_to applied p (Climbing kind may.0)) (goes_to s p (Climbing kind may.0))
      (counted_goes start applied.arrivals applied.steps applied.callers (applies_counts kind may.0 amount) p (Climbing kind may.0))
      (counted_goes start s.arrivals s.steps s.callers c p (Climbing kind may.0)))
  counts_keep (Direct amount) may = makes_counts kinds.Add amount may.2.1
  counts_keep Glance may = c

pub opened_counted : (start : Start) → IsCounted start (opened start)
opened_counted start = record {
  none = λ p number le. refl;
  once = λ p number. omega arith;
  spent = λ p. omega arith;
  each = each_call_at_first (λ call. call.pass < start.shape.passes);
  last = λ p. (refl, λ some. absurd (omega arith));
}

-- all that holds after a legal log
pub log_counted : (start : Start) → IsStart start → (log : List Event) (s : State) → Whole start s → IsCounted start s → Legal start log s → Whole start (run start log s) × IsCounted start (run start log s)
log_counted start ok [] s w c legal = (w, c)
log_counted start ok (event ∷ log) s w c legal = log_counted start ok log (effect start s event) (moves_keep start ok s w event.pass legal.0.0 event.step legal.0.1) (counts_keep start ok s w c event.pass legal.0.0 event.step legal.0.1) legal.1
