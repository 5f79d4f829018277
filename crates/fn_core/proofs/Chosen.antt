-- The first free row of a call stays the first, until the call fills it.
use Rattle.std.proofs.Common.{◌≡◌, inl, inr, ⊎_elim, ℕ, ◌+◌, ◌*◌, ◌<◌, ◌≤◌, List, [], ◌∷◌, ◌++◌, Option, refl, sym, ◌∙◌, ap, subst}
use Rattle.std.specs.Prelude.{◌||◌, ◌==◌}
use Rattle.std.proofs.lemmas.Bool.{cases_eq}
use Rattle.std.proofs.lemmas.Nat.{div-mul-add}
use Rattle.fn_model.specs.declared.Kind.{Kind}
use Rattle.fn_rows.specs.Machine.{after}
use Rattle.fn_rows.specs.Trace.{Traced}
use Rattle.fn_core.specs.declared.Event.{Event}
use Rattle.fn_core.specs.Tree.{aggregator, member, members}
use Rattle.fn_core.specs.State.{Start, State, opened}
use Rattle.fn_core.specs.Machine.{IsStart, Allowed, Legal, run, effect, place}
use Rattle.fn_core.specs.Words.{own}
use Rattle.fn_core.specs.Order.{lets, all_below, is_free, first_free}
use Rattle.fn_core.specs.Laws.{Spares, BeginsNone, ChosenRowsStay}
use Rattle.fn_core.proofs.FirstFree.{first_same}
use Rattle.fn_core.proofs.Free.{Spared, step_spares, sparing}
use Rattle.fn_core.proofs.Guards.{found_is, end_is}
use Rattle.fn_core.proofs.Filling.{Fills, fills_before, legal_push, run_push}
use Rattle.fn_core.proofs.Stays.{own_stays}
use Rattle.fn_core.proofs.Steps.{events_are_steps}

-- what is looked at to tell whether the pass's row may be filled: the row's end, and what the scans found
module _ (start : Start) (s t : State) (kind : Kind) (level pass : ℕ) where
  abbrev m : ℕ
  m = member start.shape level pass

  abbrev was : Traced
  was = place start s kind level pass

  abbrev is : Traced
  is = place start t kind level pass

  same_free : (n : ℕ) → is.end (m * start.shape.rows + n) ≡ was.end (m * start.shape.rows + n) → is.found m ≡ was.found m → is_free start t kind level pass n ≡ is_free start s kind level pass n
  same_free n end found i = (end i == 0) || all_below (λ q. (q == m) || lets (found i q) (end i)) (members start.shape level (aggregator start.shape pass level))

  pub same_first : ((n : ℕ) → n < start.shape.rows → is.end (m * start.shape.rows + n) ≡ was.end (m * start.shape.rows + n)) → is.found m ≡ was.found m → first_free start t kind level pass ≡ first_free start s kind level pass
  same_first ends found = first_same (is_free start t kind level pass) (is_free start s kind level pass) start.shape.rows (λ n lt before. same_free n (ends n lt) found)

  same_place : is ≡ was → first_free start t kind level pass ≡ first_free start s kind level pass
  same_place e = same_first (λ n lt. ap (λ (x : Traced). x.end (m * start.shape.rows + n)) e) (ap (λ (x : Traced). x.found m) e)

-- an event that spares the pass's rows leaves the first free one
first_stays : (start : Start) (log : List Event) → IsStart start → Legal start log (opened start) → (event : Event) → Allowed start (run start log (opened start)) event → (pass : ℕ) (kind : Kind) (level : ℕ)
    → (event.pass ≡ pass → Spares event.step kind level) → first_free start (effect start (run start log (opened start)) event) kind level pass ≡ first_free start (run start log (opened start)) kind level pass
first_stays start log ok legal event allowed pass kind level spares =
    let s : State = run start log (opened start) in
    let next : State = effect start s event in
    let index : ℕ = aggregator start.shape pass level in
    let m : ℕ = member start.shape level pass in
    elim (cases_eq pass event.pass) [
      | inr other ↦
          let same : own start next pass ≡ own start s pass = own_stays start log legal event allowed pass other in
          same_first start s next kind level pass
          (λ n lt. end_is start pass s next same kind level (m * start.shape.rows + n) (div-mul-add m start.shape.rows n lt)) (λ i q. found_is start pass s next same kind level q i)
      | inl same ↦ elim ((events_are_steps start log ok legal event allowed).0 kind level index) [
        | inl unchanged ↦ same_place start s next kind level pass unchanged
        | inr step ↦
            let old : Traced = s.rows kind level index in
            let spared : Spared old.state (after old.state step.0) = step_spares old.state step.0 (sparing start s event.pass event.step kind level step.0 (spares (sym same)) step.2) in
            same_first start s next kind level pass
            (λ n lt. ap (λ (x : Traced). x.end (m * start.shape.rows + n)) step.3 ∙ ap (λ (f : ℕ → ℕ). f (m * start.shape.rows + n)) spared.0)
            (ap (λ (x : Traced). x.found m) step.3 ∙ ap (λ (f : ℕ → ℕ → Option ℕ). f m) spared.1)
      ]
    ]

-- over the events since the call began
stays_over : (start : Start) (log later : List Event) → IsStart start → Legal start log (opened start) → Legal start later (run start log (opened start)) → (pass : ℕ) (kind : Kind) (level : ℕ) → 1 ≤ level → level ≤ start.shape.levels → BeginsNone pass kind later
    → Fills (own start (run start later (run start log (opened start))) pass) kind level
    → Fills (own start (run start log (opened start)) pass) kind level × (first_free start (run start later (run start log (opened start))) kind level pass ≡ first_free start (run start log (opened start)) kind level pass)
stays_over start log [] ok legal more pass kind level low high none fills = (fills, refl)
stays_over start log (event ∷ later) ok legal more pass kind level low high none fills =
    let s : State = run start log (opened start) in
    let same : run start (log ++ event ∷ []) (opened start) ≡ effect start s event = run_push start log event (opened start) in
    let rest = stays_over start (log ++ event ∷ []) later ok (legal_push start log event (opened start) legal more.0) (subst (Legal start later) (sym same) more.1) pass kind level low high none.1
    (subst (λ (x : State). Fills (own start (run start later x) pass) kind level) (sym same) fills) in
    let before = fills_before start log ok legal event more.0 pass kind level low high (subst (λ (x : State). Fills (own start x pass) kind level) same rest.0) in (
      ⊎_elim (λ had. had) (λ begins. absurd (none.0 begins.0 begins.1)) before.0,
      subst (λ (x : State). first_free start (run start later x) kind level pass ≡ first_free start x kind level pass) same rest.1 ∙ first_stays start log ok legal event more.0 pass kind level before.1,
    )

pub chosen_rows_stay : ChosenRowsStay
chosen_rows_stay start log ok legal later more pass kind level low high none fills = (stays_over start log later ok legal more pass kind level low high none fills).1
