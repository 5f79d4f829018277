-- What a call keeps and finds while it climbs, after every legal log.
use Rattle.std.proofs.Common.{◌≡◌, inl, inr, ℕ, ◌≤◌, List, sym, subst}
use Rattle.fn_model.specs.declared.Kind.{Kind}
use Rattle.fn_rows.specs.declared.Stage.TheVariants.{FilledBase}
use Rattle.fn_rows.specs.Trace.{Traced}
use Rattle.fn_rows.proofs.Invariant.{Inv, Leading, IsOurs}
use Rattle.fn_core.specs.declared.Event.{Event}
use Rattle.fn_core.specs.declared.Move.TheVariants.{Leave}
use Rattle.fn_core.specs.Tree.{aggregator, member, members}
use Rattle.fn_core.specs.State.{Start, State, opened, stage}
use Rattle.fn_core.specs.Machine.{IsStart, Allowed, Legal, run, effect, place}
use Rattle.fn_core.specs.Words.{IsPlaced, NamesMine}
use Rattle.fn_core.specs.Laws.{Begins, IsUnderway, IsFreeFor}
use Rattle.fn_core.specs.Filling.{FillsAt}
use Rattle.fn_core.proofs.Counted.{opened_counted}
use Rattle.fn_core.proofs.Filling.{fills_before}
use Rattle.fn_core.proofs.Free.{free_rows_stay}
use Rattle.fn_core.proofs.Laws.{holds}
use Rattle.fn_core.proofs.Log.{opened_whole}
use Rattle.fn_core.proofs.Others.{tidy_opened}
use Rattle.fn_core.proofs.Owned.{opened_owned, log_owned}
use Rattle.fn_core.proofs.Tells.{tidy_run, last_mine}
use Rattle.fn_core.proofs.Underway.{underway_kept}

-- a call stands at a level of the shape, and goes through aggregators
pub calls_are_placed : (start : Start) (log : List Event) → Legal start log (opened start) → (pass : ℕ) → IsPlaced start.shape ((run start log (opened start)).callers pass).position
calls_are_placed start log legal pass = (tidy_run start log (opened start) (tidy_opened start) legal).placed pass

-- what a call found in `last`, that has yet to store it in its row, names no row or a member's
pub found_last_is_mine : (start : Start) (log : List Event) → IsStart start → Legal start log (opened start) → (pass : ℕ) (kind : Kind) (level at hi base last r : ℕ)
    → stage start (run start log (opened start)) kind level pass ≡ FilledBase at hi base last r → NamesMine start.shape level (aggregator start.shape pass level) last
found_last_is_mine start log ok legal pass kind level at hi base last r is =
    let s : State = run start log (opened start) in
    let index : ℕ = aggregator start.shape pass level in
    let m : ℕ = member start.shape level pass in
    let t : Traced = place start s kind level pass in
    let inv : Inv (members start.shape level index) start.shape.rows t = (holds start log ok legal).0.good.inv kind level index in
    let leading : Leading t t.total (IsOurs start.shape.rows t m) (FilledBase at hi base last r) = subst (Leading t t.total (IsOurs start.shape.rows t m)) is (inv.leading m) in
    subst (NamesMine start.shape level index) (sym leading.1) (last_mine start log ok legal pass kind level)

module _ (start : Start) (log : List Event) (ok : IsStart start) (legal : Legal start log (opened start)) (event : Event) (allowed : Allowed start (run start log (opened start)) event) where
  abbrev now : State
  now = run start log (opened start)

  abbrev next : State
  next = effect start now event

  -- a call that is underway stays so by each step but its last
  pub calls_stay_underway : ((kind : Kind) → event.step ≡ Leave kind 1 → ⊥) → IsUnderway start now event.pass → IsUnderway start next event.pass
  calls_stay_underway further underway =
      let all = log_owned start ok log (opened start) (opened_whole start ok) (opened_counted start) (opened_owned start) legal in
      underway_kept start ok now all.0 all.1 all.2 event.pass allowed.0 event.step allowed.1 further underway

  -- a call that may come to fill a row after an event, by which it doesn't begin, might so before it, and each row that it might fill there it still may
  pub rows_stay_for_filling : (pass : ℕ) (kind : Kind) (level : ℕ) → 1 ≤ level → level ≤ start.shape.levels → (event.pass ≡ pass → Begins event.step kind → ⊥)
      → FillsAt (λ k l. stage start next k l pass) (next.callers pass).position kind level
      → FillsAt (λ k l. stage start now k l pass) (now.callers pass).position kind level × ((r : ℕ) → IsFreeFor start now pass kind level r → IsFreeFor start next pass kind level r)
  rows_stay_for_filling pass kind level low high further fills =
      let was = fills_before start log ok legal event allowed pass kind level low high fills in (
        elim was.0 [ inl before ↦ before | inr begins ↦ absurd (further begins.0 begins.1) ],
        λ r free. free_rows_stay start log ok legal event allowed pass kind level r free was.1,
      )
