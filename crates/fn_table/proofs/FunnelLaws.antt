-- The funnel is a machine of the running rule.
use Rattle.std.proofs.Common.{◌≡◌, ℕ, ◌+◌, min, arith, slice_index, List, [], ◌∷◌, fold, refl, sym, ap, subst, ◌∙◌}
use Rattle.running.specs.Machine.{Laws, IsLegal, IsLegalFrom, state_of, found}
use Rattle.running.proofs.Logs.{state-append}
use Rattle.fn_core.specs.declared.Event.{Event}
use Rattle.fn_core.specs.declared.Move.{Move}
use Rattle.fn_core.specs.declared.Move.TheVariants.{Apply, Direct}
use Rattle.fn_core.specs.declared.Start.{Start}
use Rattle.fn_core.specs.declared.Position.{Position}
use Rattle.fn_core.specs.State.{State, opened}
use Rattle.fn_core.specs.Machine.{Allowed, May, Legal, run, effect, moves, applied_by}
use Rattle.fn_layout.specs.Words.{number}
use Rattle.fn_core.specs.After.{own_after}
use Rattle.fn_core.specs.Words.{Own, own, words_of, name_of, IsPlaced, LeavesOthers}
use Rattle.fn_core.proofs.Public.{steps_tell, words_are_found, one_word, calls_are_placed, own_stays, may_is, additions_add_all}
use Rattle.fn_core.specs.Words as words
use Rattle.fn_table.specs.Funnel.{MayTake, funnel, LogsAreLegal, GuardsAreOwn, StepsAreTold}

pub guards_are_own : GuardsAreOwn
guards_are_own start s event (ok, old, same, (inside, may)) = (inside, may_is start event.pass old s (sym same) event.step may)

legal_from : (start : Start) (s : State) (log : List Event) → IsLegalFrom funnel start s log → Legal start log s × (run start log s ≡ fold (effect start) s log)
legal_from start s [] h = (tt, refl)
legal_from start s (event ∷ log) h = let r = legal_from start (effect start s event) log h.1 in ((guards_are_own start s event h.0, r.0), r.1)

pub logs_are_legal : LogsAreLegal
logs_are_legal start log h = legal_from start (opened start) log h

-- a call stands at a level of the shape after every legal log
pub placed_after : (start : Start) (log : List Event) → IsLegal funnel start log → (pass : ℕ) → IsPlaced start.shape ((state_of funnel start log).callers pass).position
placed_after start log legal pass =
    let l = logs_are_legal start log legal in
    subst (λ (x : State). IsPlaced start.shape (x.callers pass).position) l.1 (calls_are_placed start log l.0 pass)

-- an event leaves what the guards of the other passes read
others_left : (start : Start) (log : List Event) (event : Event) → IsLegal funnel start log → Allowed start (state_of funnel start log) event → LeavesOthers start event.pass (state_of funnel start log) (effect start (state_of funnel start log) event)
others_left start log event legal allowed q ne =
    let l = logs_are_legal start log legal in
    subst (λ (x : State). own start (effect start x event) q ≡ own start x q) l.1 (own_stays start log l.0 event (subst (λ (x : State). Allowed start x event) (sym l.1) allowed) q ne)

-- the event adds its whole amount
abbrev AddsAll : Start → State → Event → Type 0
AddsAll start s event = ((weight : ℕ) → event.step ≡ Apply weight → (effect start s event).main ≡ s.main + weight) × ((amount : ℕ) → event.step ≡ Direct amount → (effect start s event).main ≡ s.main + amount)

-- no addition to the main word passes the cap
within : (start : Start) (s : State) (event : Event) (step : Move) → event.step ≡ step → May start s event.pass step
    → ((weight : ℕ) → step ≡ Apply weight → (moves start s event.pass step).main ≡ s.main + weight) × ((amount : ℕ) → step ≡ Direct amount → (moves start s event.pass step).main ≡ s.main + amount) → words.IsWithin start s step
within start s event (Apply weight) e (level, position, _, _, _) adds =
    let whole : min start.cap (s.main + weight) ≡ s.main + weight = sym (ap (λ (p : Position). (applied_by start s event.pass weight p).main) position) ∙ adds.0 weight refl in omega arith
within start s event (Direct amount) e may adds = let whole : min start.cap (s.main + amount) ≡ s.main + amount = adds.1 amount refl in omega arith
within start s event _ e may adds = tt

-- what is asked of an event after a legal log
pub within_after : (start : Start) (log : List Event) (event : Event) → IsLegal funnel start log → MayTake start (own start (state_of funnel start log) event.pass) event → words.IsWithin start (state_of funnel start log) event.step
within_after start log event legal guard =
    let s : State = state_of funnel start log in
    let allowed : Allowed start s event = guards_are_own start s event guard in
    let l = logs_are_legal start log legal in
    within start s event event.step refl allowed.1 (subst (λ (x : State). AddsAll start x event) l.1 (additions_add_all start log guard.0 l.0 event (subst (λ (x : State). Allowed start x event) (sym l.1) allowed)))

pub laws : Laws funnel
laws = record {
  others = λ start log event q legal guard ne. others_left start log event legal (guards_are_own start (state_of funnel start log) event guard) q ne;
  one_word = λ start log event legal guard.
      (let allowed : Allowed start (state_of funnel start log) event = guards_are_own start (state_of funnel start log) event guard in
      ap (words.words_of start) (state-append funnel start log (event ∷ []))
      ∙ one_word start (state_of funnel start log) event.pass allowed.0 event.step (placed_after start log legal event.pass) (within_after start log event legal guard) allowed.1);
}

pub steps_are_told : StepsAreTold
steps_are_told start log event legal guard =
    let s : State = state_of funnel start log in
    let l = logs_are_legal start log legal in
    let allowed : Allowed start s event = guards_are_own start s event guard in
    let before : Allowed start (run start log (opened start)) event = subst (λ (x : State). Allowed start x event) (sym l.1) allowed in
    let tells = steps_tell start log event guard.0 l.0 before in
    let words = words_are_found start log event guard.0 l.0 before in
    let told : own start (effect start s event) event.pass ≡ own_after start event.pass event.step (found funnel start log event) (own start s event.pass) =
    subst (λ (x : State). own start (effect start x event) event.pass ≡ own_after start event.pass event.step (slice_index (words_of start x) (number start.shape (name_of start.shape event.pass event.step))) (own start x event.pass)) l.1
    (tells ∙ ap (λ (n : ℕ). own_after start event.pass event.step n (own start (run start log (opened start)) event.pass)) (sym words.1)) in
    ap (λ (x : State). own start x event.pass) (state-append funnel start log (event ∷ [])) ∙ told
