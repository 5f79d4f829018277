-- What a pass keeps while others step: its own, and its own calls.
use Rattle.std.proofs.Common.{◌≡◌, ℕ, zero, suc, ◌+◌, ◌<◌, List, [], ◌∷◌, map, Some, All, slice_get, sym, ◌∙◌, ap, subst, arith}
use Rattle.std.proofs.lemmas.Option.{get_or_from_slice_get, slice_get_within}
use mathlib.Core.List.{IsPrefix}
use Rattle.running.specs.Running.{numbers_from}
use Rattle.running.proofs.Logs.{own_same}
use Rattle.fn_model.specs.Calls.{own as own_calls}
use Rattle.fn_core.specs.declared.Event.{Event}
use Rattle.fn_core.specs.declared.Start.{Start}
use Rattle.fn_core.specs.declared.Move.{Move}
use Rattle.fn_core.specs.declared.Move.TheVariants.{Glance}
use Rattle.fn_core.specs.State.{State, opened, history_in}
use Rattle.fn_core.specs.Machine.{IsStart, Legal, Allowed, run}
use Rattle.fn_core.specs.Words.{Own, own}
use Rattle.fn_core.specs.Calls.{CoreLog, state_in, calls_in, IsLegal, IsIdle, with_move}
use Rattle.fn_core.proofs.Public.{run_push, legal_parts, run_parts, own_calls_stay, resting_passes_have_no_call}
use Rattle.fn_table.specs.Funnel.{funnel}
use Rattle.fn_table.specs.Seen.{PassView, TableView, Stepped, HasAll, IsOf, AreAll, IsClosed, event, own_of, with_log}
use Rattle.fn_table.proofs.FunnelLaws.{laws}
use Rattle.fn_table.proofs.States.{own_is, is_legal}

-- From the log that an idle pass had seen to a later one, by which it has made no call
module _ (p : PassView) (range : p.number < p.seen.start.shape.passes) (before : List Event) (ok : IsStart p.seen.start) (legal : Legal p.seen.start before (opened p.seen.start)) (begins : IsPrefix p.seen.log before)
    (idle : IsIdle p.seen p.number) (made : ((state_in (with_log p before)).callers p.number).made ≡ ((state_in p.seen).callers p.number).made) where
  abbrev start : Start
  start = p.seen.start

  abbrev later : List Event
  later = begins.0

  parts : Legal start p.seen.log (opened start) × Legal start later (state_in p.seen)
  parts = legal_parts start p.seen.log later (opened start) (subst (λ (l : List Event). Legal start l (opened start)) (sym begins.1) legal)

  here : run start later (state_in p.seen) ≡ state_in (with_log p before)
  here = sym (run_parts start p.seen.log later (opened start)) ∙ ap (λ (l : List Event). run start l (opened start)) begins.1

  -- its own calls are the same
  pub own_kept : own_calls p.number (calls_in (with_log p before)) ≡ own_calls p.number (calls_in p.seen)
  own_kept =
      subst (λ (s : State). own_calls p.number (history_in start s) ≡ own_calls p.number (calls_in p.seen)) here
      (own_calls_stay start p.seen.log ok parts.0 later parts.1 p.number (resting_passes_have_no_call p.seen (ok, parts.0) p.number range idle) (ap (λ (s : State). (s.callers p.number).made) here ∙ made))

-- what a step says of the pass's own before it and after it
module _ (p : PassView) (step : Move) (n : ℕ) (q : PassView) (stepped : Stepped p step n q) where
  abbrev log : List Event
  log = stepped.before

  pub legal_now : IsLegal (with_move (with_log p log) p.number step)
  legal_now = subst (λ (x : PassView). IsLegal x.seen) stepped.now stepped.legal

  pub is_start : IsStart p.seen.start
  is_start = legal_now.0

  cut : Legal p.seen.start log (opened p.seen.start) × Legal p.seen.start (event p.number step ∷ []) (state_in (with_log p log))
  cut = legal_parts p.seen.start log (event p.number step ∷ []) (opened p.seen.start) legal_now.1

  pub legal_before : Legal p.seen.start log (opened p.seen.start)
  legal_before = cut.0

  pub allowed_then : Allowed p.seen.start (state_in (with_log p log)) (event p.number step)
  allowed_then = cut.1.0

  -- the pass's own was the same just before the step
  pub own_before : own p.seen.start (state_in (with_log p log)) p.number ≡ own_of p
  own_before =
      let start : Start = p.seen.start in
      sym (own_is start log p.number) ∙ own_same funnel start laws p.number p.seen.log log (is_legal start log is_start legal_before) stepped.begins stepped.events ∙ own_is start p.seen.log p.number

  pub made_before : ((state_in (with_log p log)).callers p.number).made ≡ ((state_in p.seen).callers p.number).made
  made_before = ap (λ (o : Own). o.caller.made) own_before

  -- .. and what it is now
  pub caller_now : (state_in (with_move (with_log p log) p.number step)).callers p.number ≡ (own_of q).caller
  caller_now = ap (λ (x : PassView). (own_of x).caller) (sym stepped.now)

-- a list of passes, one at a place
all_at : (P : PassView → Type 0) (ps : List PassView) (k : ℕ) (p : PassView) → All P ps → slice_get ps k ≡ Some p → P p
all_at P ps k p all is = subst P (get_or_from_slice_get ps k p p is) (all k p (slice_get_within ps k p is))

number_below : (first count : ℕ) (ps : List PassView) (k : ℕ) (p : PassView) → map (λ (q : PassView). q.number) ps ≡ numbers_from first count → slice_get ps k ≡ Some p → p.number < first + count
number_below first count [] k p numbers is = absurd (cc)
number_below first zero (q ∷ ps) k p numbers is = absurd (cc)
number_below first (suc count) (q ∷ ps) zero p numbers is = let same : q ≡ p = cc in let here : q.number ≡ first = cc in omega (arith, here, ap (λ (x : PassView). x.number) same)
number_below first (suc count) (q ∷ ps) (suc k) p numbers is = let more : map (λ (x : PassView). x.number) ps ≡ numbers_from (suc first) count = cc in omega (arith, number_below (suc first) count ps k p more is)

-- the own calls of each pass in a book are those that it has seen
pub calls_kept : (t : TableView) (passes : List PassView) (book : CoreLog) → book.start ≡ t.start → IsClosed passes book → AreAll t passes → All (IsOf t) passes → All (λ (p : PassView). IsIdle p.seen p.number) passes
    → (k : ℕ) (p : PassView) → slice_get passes k ≡ Some p → own_calls p.number (calls_in book) ≡ own_calls p.number (calls_in p.seen)
calls_kept t passes book same closed all together idle k p is =
    let start : Start = p.seen.start in
    let of_table : IsOf t p = all_at (IsOf t) passes k p together is in
    let book_is : book ≡ with_move (with_log p closed.before) 0 Glance = λ i. record { start = (same ∙ sym of_table.1) i; log = closed.last i } in
    let legal : IsLegal (with_move (with_log p closed.before) 0 Glance) = subst IsLegal book_is closed.legal in
    let cut = legal_parts start closed.before (event 0 Glance ∷ []) (opened start) legal.1 in
    let has : HasAll closed.before p = closed.each k p is in
    let range : p.number < start.shape.passes = omega (arith, number_below 0 t.start.shape.passes passes k p all is, ap (λ (x : Start). x.shape.passes) of_table.1) in
    let here : own start (state_in (with_log p closed.before)) p.number ≡ own_of p =
    sym (own_is start closed.before p.number) ∙ own_same funnel start laws p.number p.seen.log closed.before (is_legal start closed.before legal.0 cut.0) has.begins has.events ∙ own_is start p.seen.log p.number in
    ap (λ (c : CoreLog). own_calls p.number (calls_in c)) book_is
    ∙ ap (λ (s : State). own_calls p.number (history_in start s)) (run_push start closed.before (event 0 Glance) (opened start))
    ∙ own_kept p range closed.before legal.0 cut.0 has.begins (all_at (λ (q : PassView). IsIdle q.seen q.number) passes k p idle is) (ap (λ (o : Own). o.caller.made) here)
