-- Each event is a step of the pass's own aggregators.
use Rattle.std.proofs.Common.{◌≡◌, ◌⊎◌, inl, inr, ℕ, zero, suc, ◌<◌, List, Bool, true, false, cond, refl, sym, ◌∙◌, ap, subst, arith}
use Rattle.std.specs.Prelude.{if◌then◌else◌, ◌==◌}
use Rattle.std.proofs.lemmas.Bool.{eqb-true}
use Rattle.fn_model.specs.declared.Kind.{Kind}
use Rattle.fn_model.specs.declared.Kind.TheVariants as kinds
use Rattle.fn_model.specs.Integer.{after}
use Rattle.fn_rows.specs.Machine as local_step
use Rattle.fn_rows.specs.Trace.{Traced, traced}
use Rattle.fn_core.specs.declared.Purpose.TheVariants as purpose
use Rattle.fn_core.specs.declared.Move.{Move}
use Rattle.fn_core.specs.declared.Move.TheVariants.{Scan, See, Announce, Arrive, Look, Close, Apply, Head, Fill, Point, Publish, Peek, Leave, Load, Exchange, Direct, Glance}
use Rattle.fn_core.specs.declared.Event.{Event}
use Rattle.fn_core.specs.Tree.{aggregator, member}
use Rattle.fn_core.specs.State.{Start, Position, Resting, Trying, Climbing, Deciding, State, opened, put_at, stage, local, goes_to, reply_of}
use Rattle.fn_core.specs.Machine.{IsStart, May, Legal, run, moves, makes, applies, applied_by, filled_by, peeked_by, loaded_by, exchanged_by, leaves, fills}
use Rattle.fn_core.specs.Steps.{IsStepOf, main_after, loaded}
use Rattle.fn_core.specs.Laws.{EventsAreSteps}
use Rattle.fn_core.proofs.Places.{same_place}
use Rattle.fn_core.proofs.Laws.{additions_add_all}

-- what a step at one aggregator does to each
local_rows : (rows : Kind → ℕ → ℕ → Traced) (k : Kind) (l i : ℕ) (step : local_step.Step) (k' : Kind) (l' i' : ℕ) → ((k' ≡ k) × (l' ≡ l) × (i' ≡ i) × (put_at rows k l i (traced (rows k l i) step) k' l' i' ≡ traced (rows k' l' i') step)) ⊎ (put_at rows k l i (traced (rows k l i) step) k' l' i' ≡ rows k' l' i')
local_rows rows k l i step k' l' i' = elim (same_place k' k l' l i' i) [
  | inr not ↦ inr (ap (λ (t : Bool). cond t (traced (rows k l i) step) (rows k' l' i')) not)
  | inl is ↦
      let old : rows k l i ≡ rows k' l' i' = ap (λ (x : Kind). rows x l i) (sym is.0) ∙ ap (λ (x : ℕ). rows k' x i) (sym is.1) ∙ ap (λ (x : ℕ). rows k' l' x) (sym is.2) in
      inl (is.0, is.1, is.2, ap (λ (t : Bool). cond t (traced (rows k l i) step) (rows k' l' i')) is.3 ∙ ap (λ (x : Traced). traced x step) old)
]

either_main : (test : Bool) (x y : State) → (if test then x else y).main ≡ (if test then x.main else y.main)
either_main true x y = refl
either_main false x y = refl

either_rows : (test : Bool) (x y : State) (k : Kind) (l i : ℕ) → ((test ≡ true) × ((if test then x else y).rows k l i ≡ x.rows k l i)) ⊎ ((if test then x else y).rows k l i ≡ y.rows k l i)
either_rows true x y k l i = inl (refl, refl)
either_rows false x y k l i = inr refl

module _ (start : Start) (s : State) (p : ℕ) where
  -- what is said of each aggregator
  abbrev Taken : Move → State → Type 0
  Taken move next = (kind : Kind) (level index : ℕ) → (next.rows kind level index ≡ s.rows kind level index)
      ⊎ ((step : local_step.Step) × (index ≡ aggregator start.shape p level) × IsStepOf start s p move kind level step × (next.rows kind level index ≡ traced (s.rows kind level index) step))

  none_taken : (move : Move) (next : State) → ((kind : Kind) (level index : ℕ) → next.rows kind level index ≡ s.rows kind level index) → Taken move next
  none_taken move next same kind level index = inl (same kind level index)

  -- one step
  one_taken : (move : Move) (k : Kind) (l : ℕ) (step : ℕ → local_step.Step) → IsStepOf start s p move k l (step (member start.shape l p)) → Taken move (local start s k l p step)
  one_taken move k l step is kind level index = elim (local_rows s.rows k l (aggregator start.shape p l) (step (member start.shape l p)) kind level index) [
    | inr same ↦ inl same
    | inl at ↦ inr (
      step (member start.shape l p),
      at.2 ∙ ap (aggregator start.shape p) (sym at.1),
      subst (λ (x : Kind). IsStepOf start s p move x level (step (member start.shape l p))) (sym at.0) (subst (λ (x : ℕ). IsStepOf start s p move k x (step (member start.shape l p))) (sym at.1) is),
      at.3,
    )
  ]

  leave_taken : (k : Kind) (l : ℕ) → Taken (Leave k l) (leaves start s p k l)
  leave_taken k zero kind level index = inl refl
  leave_taken k (suc zero) kind level index = one_taken (Leave k 1) k 1 (λ m. local_step.Leave m) (refl, inl (refl, refl)) kind level index
  leave_taken k (suc (suc below)) kind level index =
      let middle : State = local start s k (suc (suc below)) p (λ m. local_step.Leave m) in
      let b : ℕ = reply_of start.cap k (stage start s k (suc (suc below)) p) in
      let out : local_step.Step = local_step.Leave (member start.shape (suc (suc below)) p) in
      let hand : local_step.Step = local_step.Hand_base (member start.shape (suc below) p) b in
      elim (local_rows middle.rows k (suc below) (aggregator start.shape p (suc below)) hand kind level index) [
        | inl at ↦ elim (local_rows s.rows k (suc (suc below)) (aggregator start.shape p (suc (suc below))) out kind level index) [
          | inl wrong ↦ absurd (omega (arith, at.1, wrong.1))
          | inr same ↦ inr (
            hand,
            at.2 ∙ ap (aggregator start.shape p) (sym at.1),
            (at.0, inr (ap suc at.1, ap (λ (x : ℕ). local_step.Hand_base (member start.shape x p) b) (sym at.1))),
            at.3 ∙ ap (λ (x : Traced). traced x hand) same,
          )
        ]
        | inr after_it ↦ elim (local_rows s.rows k (suc (suc below)) (aggregator start.shape p (suc (suc below))) out kind level index) [
          | inr same ↦ inl (after_it ∙ same)
          | inl at ↦ inr (out, at.2 ∙ ap (aggregator start.shape p) (sym at.1), (at.0, inl (at.1, refl)), after_it ∙ at.3)
        ]
      ]

  -- an exchange by a delegate
  exchange_taken : (kind : Kind) (amount level word : ℕ) → (s.callers p).position ≡ Deciding kind level word → Taken (Exchange kind amount) (exchanged_by start s p kind amount (Deciding kind level word))
  exchange_taken kind amount level word is k l i =
      let won : State = goes_to (applies start s p kind level amount) p (Climbing kind level) in
      elim (either_rows (s.main == word) won (goes_to s p (Climbing kind level)) k l i) [
        | inr same ↦ inl same
        | inl did ↦ elim (local_rows s.rows kind level (aggregator start.shape p level) (local_step.Hand_base (member start.shape level p) s.main) k l i) [
          | inr same ↦ inl (did.1 ∙ same)
          | inl at ↦ inr (
            local_step.Hand_base (member start.shape level p) s.main,
            at.2 ∙ ap (aggregator start.shape p) (sym at.1),
            (word, is ∙ ap (λ (x : Kind). Deciding x level word) (sym at.0) ∙ ap (λ (x : ℕ). Deciding k x word) (sym at.1), eqb-true s.main word did.0, ap (λ (x : ℕ). local_step.Hand_base (member start.shape x p) s.main) (sym at.1)),
            did.1 ∙ at.3,
          )
        ]
      ]

  -- after an event
  pub taken : (move : Move) → May start s p move → Taken move (moves start s p move)
  taken (Scan kind level other) may = one_taken (Scan kind level other) kind level (λ m. local_step.Scan m (member start.shape level other)) (refl, refl, refl)
  taken (See kind level) may = one_taken (See kind level) kind level (λ m. local_step.See m) (refl, refl, refl)
  taken (Announce kind level) may = one_taken (Announce kind level) kind level (λ m. local_step.Announce m) (refl, refl, refl)
  taken (Arrive kind zero weight) may = absurd may.1
  taken (Arrive kind (suc zero) weight) may = one_taken (Arrive kind 1 weight) kind 1 (λ m. local_step.Arrive m weight) (refl, refl, refl)
  taken (Arrive kind (suc (suc below)) weight) may = one_taken (Arrive kind (suc (suc below)) weight) kind (suc (suc below)) (λ m. local_step.Arrive m weight) (refl, refl, refl)
  taken (Look kind level) may = one_taken (Look kind level) kind level (λ m. local_step.Look m) (refl, refl, refl)
  taken (Close kind level) may = one_taken (Close kind level) kind level (λ m. local_step.Close m) (refl, refl, refl)
  taken (Apply weight) may = subst (λ (x : Position). Taken (Apply weight) (applied_by start s p weight x)) (sym may.1) (one_taken (Apply weight) kinds.Add may.0 (λ m. local_step.Hand_base m s.main) (may.1, refl))
  taken (Head kind level) may = one_taken (Head kind level) kind level (λ m. local_step.Head m) (refl, refl, refl)
  taken (Fill row field) may = subst (λ (x : Position). Taken (Fill row field) (filled_by start s p row field x)) (sym may.3.0) (one_taken (Fill row field) may.0 may.1 (fills start s may.0 may.1 p row field) (may.3.0, refl))
  taken (Point kind level row) may = one_taken (Point kind level row) kind level (λ m. local_step.Point m) (refl, refl, refl)
  taken (Publish kind level) may = one_taken (Publish kind level) kind level (λ m. local_step.Publish m) (refl, refl, refl)
  taken (Peek row field) may = subst (λ (x : Position). Taken (Peek row field) (peeked_by start s p x)) (sym may.2.0) (one_taken (Peek row field) may.0 may.1 (λ m. local_step.Peek m) (may.2.0, refl))
  taken (Leave kind level) may = leave_taken kind level
  taken (Load purpose.Try) (inl is) = subst (λ (x : Position). Taken (Load purpose.Try) (loaded_by s p x)) (sym is) (none_taken (Load purpose.Try) (goes_to s p (Trying s.main)) (λ kind level index. refl))
  taken (Load purpose.Try) (inr may) = subst (λ (x : Position). Taken (Load purpose.Try) (loaded_by s p x)) (sym may.2) (none_taken (Load purpose.Try) (goes_to s p (Deciding may.0 may.1 s.main)) (λ kind level index. refl))
  taken (Load purpose.Read) is = none_taken (Load purpose.Read) (makes start s p kinds.Read 0) (λ kind level index. refl)
  taken (Exchange kind amount) (inl may) = subst (λ (x : Position). Taken (Exchange kind amount) (exchanged_by start s p kind amount x)) (sym may.1)
      (none_taken (Exchange kind amount) (exchanged_by start s p kind amount (Trying may.0)) (λ k l i. elim (either_rows (s.main == may.0) (goes_to (makes start s p kind amount) p Resting) (goes_to s p Resting) k l i) [
        | inl did ↦ did.1
        | inr left ↦ left
      ]))
  taken (Exchange kind amount) (inr may) = subst (λ (x : Position). Taken (Exchange kind amount) (exchanged_by start s p kind amount x)) (sym may.2) (exchange_taken kind amount may.0 may.1 may.2)
  taken (Direct amount) may = none_taken (Direct amount) (makes start s p kinds.Add amount) (λ kind level index. refl)
  taken Glance may = none_taken Glance s (λ kind level index. refl)

-- the main word
main_goes : (start : Start) (log : List Event) → IsStart start → Legal start log (opened start) → let s = run start log (opened start) in (p : ℕ) → p < start.shape.passes → (move : Move) → May start s p move → (moves start s p move).main ≡ main_after start s p move
main_goes start log ok legal p range (Scan kind level other) may = refl
main_goes start log ok legal p range (See kind level) may = refl
main_goes start log ok legal p range (Announce kind level) may = refl
main_goes start log ok legal p range (Arrive kind zero weight) may = refl
main_goes start log ok legal p range (Arrive kind (suc zero) weight) may = refl
main_goes start log ok legal p range (Arrive kind (suc (suc below)) weight) may = refl
main_goes start log ok legal p range (Look kind level) may = refl
main_goes start log ok legal p range (Close kind level) may = refl
main_goes start log ok legal p range (Apply weight) may = (additions_add_all start log ok legal (record { pass = p; step = Apply weight }) (range, may)).0 weight refl
main_goes start log ok legal p range (Head kind level) may = refl
main_goes start log ok legal p range (Fill row field) may = let s = run start log (opened start) in subst (λ (x : Position). (filled_by start s p row field x).main ≡ s.main) (sym may.3.0) refl
main_goes start log ok legal p range (Point kind level row) may = refl
main_goes start log ok legal p range (Publish kind level) may = refl
main_goes start log ok legal p range (Peek row field) may = let s = run start log (opened start) in subst (λ (x : Position). (peeked_by start s p x).main ≡ s.main) (sym may.2.0) refl
main_goes start log ok legal p range (Leave kind zero) may = refl
main_goes start log ok legal p range (Leave kind (suc zero)) may = refl
main_goes start log ok legal p range (Leave kind (suc (suc below))) may = refl
main_goes start log ok legal p range (Load purpose.Try) (inl is) = let s = run start log (opened start) in subst (λ (x : Position). (loaded_by s p x).main ≡ s.main) (sym is) refl
main_goes start log ok legal p range (Load purpose.Try) (inr may) = let s = run start log (opened start) in subst (λ (x : Position). (loaded_by s p x).main ≡ s.main) (sym may.2) refl
main_goes start log ok legal p range (Load purpose.Read) may = refl
main_goes start log ok legal p range (Exchange kind amount) (inl may) =
    let s = run start log (opened start) in
    subst (λ (x : Position). (exchanged_by start s p kind amount x).main ≡ (if s.main == loaded x then after start.cap s.main kind amount else s.main)) (sym may.1)
    (either_main (s.main == may.0) (goes_to (makes start s p kind amount) p Resting) (goes_to s p Resting))
main_goes start log ok legal p range (Exchange kind amount) (inr may) =
    let s = run start log (opened start) in
    subst (λ (x : Position). (exchanged_by start s p kind amount x).main ≡ (if s.main == loaded x then after start.cap s.main kind amount else s.main)) (sym may.2)
    (either_main (s.main == may.1) (goes_to (applies start s p kind may.0 amount) p (Climbing kind may.0)) (goes_to s p (Climbing kind may.0)))
main_goes start log ok legal p range (Direct amount) may = (additions_add_all start log ok legal (record { pass = p; step = Direct amount }) (range, may)).1 amount refl
main_goes start log ok legal p range Glance may = refl

pub events_are_steps : EventsAreSteps
events_are_steps start log ok legal event allowed =
    let s : State = run start log (opened start) in
    (taken start s event.pass event.step allowed.1, main_goes start log ok legal event.pass allowed.0 event.step allowed.1)
