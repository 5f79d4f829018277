-- What a step of a call tells, by what was logged before it, and how far the call has come then.
use Rattle.std.proofs.Common.{◌≡◌, ◌≢◌, ◌⊎◌, inl, inr, ℕ, zero, suc, ◌+◌, ◌*◌, ◌-◌, ◌<◌, ◌≤◌, List, [], ◌∷◌, ◌++◌, refl, sym, ap, subst, ◌∙◌, arith, append_assoc, Bool, true, false, Option, Some, None}
use Rattle.std.specs.Prelude.{sum, slice_index_or, cond, ◌==◌}
use Rattle.std.proofs.lemmas.Bool.{eq-eqb}
use mathlib.Core.List.{IsPrefix}
use Rattle.running.proofs.Logs.{none_after}
use Rattle.fn_model.specs.declared.Kind.{Kind}
use Rattle.fn_model.specs.Calls.{place as place_of}
use Rattle.fn_rows.specs.declared.Field.TheVariants.{Lo}
use Rattle.fn_layout.specs.Tree.{IsLevel, aggregator, member, members}
use Rattle.fn_core.specs.declared.Event.{Event}
use Rattle.fn_core.specs.declared.Start.{Start}
use Rattle.fn_core.specs.declared.Move.{Move}
use Rattle.fn_core.specs.declared.Move.TheVariants.{See, Fill}
use Rattle.fn_core.specs.declared.Position.{Position}
use Rattle.fn_core.specs.declared.Position.TheVariants.{Climbing}
use Rattle.fn_core.specs.declared.answer.CoreStep.{CoreStep}
use Rattle.fn_core.specs.declared.answer.CoreStep.TheVariants as told
use Rattle.fn_core.specs.State.{State, opened, history_in}
use Rattle.fn_core.specs.Machine.{IsStart, Allowed, Legal, run, effect}
use Rattle.fn_core.specs.Words.{Own, own, word}
use Rattle.fn_core.specs.Order.{next_move}
use Rattle.fn_core.specs.Laws.{Begins, IsUnderway, IsFreeFor}
use Rattle.fn_core.specs.Batches.{has_come}
use Rattle.fn_core.specs.Bound.{steps_left}
use Rattle.fn_core.specs.Fields.{answer_of}
use Rattle.fn_core.specs.Filling.{FillsAt}
use Rattle.fn_core.specs.Calls.{CoreLog, state_in, IsLegal, HasCall, with_move, stage_for, told_by, step_answer, Follows, HasJoined}
use Rattle.fn_core.proofs.Public.{calls_stay_underway, rows_stay_for_filling, replies_are_bounded, places_are_beyond, free_is, next_is_own, legal_push, run_push, others_cost_nothing, steps_run_out, legal_parts, run_parts, in_call, follows, few_left}
use Rattle.fn_table.specs.Funnel.{funnel}
use Rattle.fn_table.specs.Seen.{PassView, Stepped, own_of, event, events_of, with_log}
use Rattle.fn_table.proofs.Later.{later_by}
use Rattle.fn_table.proofs.OwnCalls.{legal_before as legal_until, own_before as own_until, allowed_then}
use Rattle.fn_climb.specs.declared.course.Course.{Course}
use Rattle.fn_climb.specs.Course.{position_by, IsCourseOf, HasChosen, Holds, pending_of}
use Rattle.fn_climb.specs.Next.{PendingView, next_step, kept_row, in_kept_row, IsNext}
use Rattle.fn_climb.specs.Steps.{HasSameCall, HasReplied, Went}

-- a call that has begun doesn't begin again
begins_not : (start : Start) (s : State) (pass : ℕ) (step : Move) (kind k : Kind) (level : ℕ) (word : Option ℕ) → (s.callers pass).position ≡ position_by k level word → Allowed start s (event pass step) → Begins step kind → ⊥
begins_not start s pass (See l (suc zero)) kind k level None is allowed begins = cc (is, allowed.1.0)
begins_not start s pass (See l (suc zero)) kind k level (Some w) is allowed begins = cc (is, allowed.1.0)
begins_not start s pass step kind k level word is allowed begins = begins

-- a row that the pass may fill is told by its own
free_is_own : (start : Start) (s t : State) (pass : ℕ) → own start t pass ≡ own start s pass → (kind : Kind) (level r : ℕ) → IsFreeFor start s pass kind level r → IsFreeFor start t pass kind level r
free_is_own start s t pass same kind level r free = (free.0, free_is start pass s t same kind level (members start.shape level (aggregator start.shape pass level)) r free.0 free.1)

-- what joined since a log joined since each log that it goes on from
pub joined_from : (start : Start) (first log : List Event) (new : CoreLog) (pass : ℕ) → IsPrefix first log → HasJoined (record { start = start; log = log }) new pass → HasJoined (record { start = start; log = first }) new pass
joined_from start first log new pass (more, whole) joined earlier later is = joined earlier (later ++ more) (sym whole ∙ ap (λ (l : List Event). l ++ more) is ∙ append_assoc earlier later more)

-- events none of which is the pass's begin with one of another, and the rest has none of it either
first_other : (pass : ℕ) (e : Event) (log : List Event) → events_of pass (e ∷ log) ≡ [] → (e.pass ≢ pass) × (events_of pass log ≡ [])
first_other pass e log none = by (e.pass == pass) refl none
  where
    by : (b : Bool) → (e.pass == pass) ≡ b → cond b (e ∷ events_of pass log) (events_of pass log) ≡ [] → (e.pass ≢ pass) × (events_of pass log ≡ [])
    by true is none = absurd (cc (none))
    by false is none = ((λ same. cc (eq-eqb e.pass pass same, is)), none)

-- the events of others leave the steps that the pass's call has left
others_cost : (start : Start) → IsStart start → (pass n : ℕ) (log more : List Event) → Legal start log (opened start) → Legal start more (run start log (opened start)) → events_of pass more ≡ []
    → steps_left start (run start more (run start log (opened start))) pass n ≡ steps_left start (run start log (opened start)) pass n
others_cost start ok pass n log [] legal later none = refl
others_cost start ok pass n log (e ∷ more) legal later none =
    let first = first_other pass e more none in
    let next : run start (log ++ e ∷ []) (opened start) ≡ effect start (run start log (opened start)) e = run_push start log e (opened start) in
    let rest = others_cost start ok pass n (log ++ e ∷ []) more (legal_push start log e (opened start) legal later.0) (subst (Legal start more) (sym next) later.1) first.1 in
    ap (λ (x : State). steps_left start (run start more x) pass n) (sym next) ∙ rest ∙ ap (λ (x : State). steps_left start x pass n) next
    ∙ others_cost_nothing start log ok legal e later.0 pass n (λ same. first.0 (sym same))

-- what holds of a reply in every legal log
replied_by : (old : CoreLog) (q : PassView) (told : CoreStep) → Follows old q.seen q.number told → IsLegal q.seen → HasReplied q told
replied_by old q (told.Ready reply) f legal = record {
  bounded = subst (λ (n : ℕ). n ≤ q.seen.start.opening + sum q.seen.start.allowances) f.1.4 (replies_are_bounded q.seen.start q.seen.log legal.0 legal.1 f.1.0);
  beyond = λ earlier begins made i at.
      let parts = legal_parts q.seen.start earlier begins.0 (opened q.seen.start) (subst (λ (l : List Event). Legal q.seen.start l (opened q.seen.start)) (sym begins.1) legal.1) in
      let same : state_in q.seen ≡ run q.seen.start begins.0 (run q.seen.start earlier (opened q.seen.start)) = ap (λ (l : List Event). run q.seen.start l (opened q.seen.start)) (sym begins.1) ∙ run_parts q.seen.start earlier begins.0 (opened q.seen.start) in
      places_are_beyond q.seen.start earlier legal.0 parts.0 begins.0 parts.1 q.number (own_of q).caller.last.number i made (ap (λ (x : State). place_of q.number (own_of q).caller.last.number (history_in q.seen.start x)) (sym same) ∙ at);
}
replied_by old q told.Going f legal = tt
replied_by old q (told.NotYet why) f legal = tt

-- the next step is the one that the order tells, or the first Fill in the row that was kept
kept_cases : (q : PendingView) (m : Move) (position : Position) (step : Move) → in_kept_row q m position ≡ step → (m ≡ step) ⊎ ((first row : ℕ) × (m ≡ Fill first Lo) × (step ≡ Fill row Lo))
kept_cases q (Fill first Lo) (Climbing kind level) step is = inr (first, kept_row q kind level, refl, sym is)
kept_cases q m position step is = inl is

pub next_cases : (q : PendingView) (step : Move) → IsNext q step → (next_step q.pass ≡ step) ⊎ ((first row : ℕ) × (next_step q.pass ≡ Fill first Lo) × (step ≡ Fill row Lo))
next_cases q step is = kept_cases q (next_step q.pass) (own_of q.pass).caller.position step is

-- a step that is no first Fill is the one that the order tells
pub plain : (p : PassView) (c : Course) {step : Move} → next_step p ≡ step → in_kept_row (pending_of p c) (next_step p) (own_of p).caller.position ≡ in_kept_row (pending_of p c) step (own_of p).caller.position
plain p c next = ap (λ (m : Move). in_kept_row (pending_of p c) m (own_of p).caller.position) next

module _ {p : PassView} {c : Course} (h : Holds p c) {step : Move} {n : ℕ} {q : PassView} (t : Stepped p step n q) where
  abbrev start : Start
  start = p.seen.start

  abbrev before : CoreLog
  before = with_log p t.before

  -- what was logged before the step
  pub legal_before : IsLegal before
  legal_before = (h.legal.0, legal_until p step n q t)

  -- the pass stood there as before
  pub own_before : own start (state_in before) p.number ≡ own_of p
  own_before = own_until p step n q t

  pub call_before : HasCall before p.number
  call_before = subst (λ (o : Own). (kind : Kind) × (has_come (o.stages kind 1) ≡ true)) (sym own_before) h.call

  pub next_before : next_move start (state_in before) p.number ≡ next_step p
  next_before = next_is_own start (state_in p.seen) (state_in before) p.number own_before

  -- the state after it
  pub state_after : state_in q.seen ≡ effect start (state_in before) (event p.number step)
  state_after = ap (λ (v : PassView). state_in v.seen) t.now ∙ run_push start t.before (event p.number step) (opened start)

  pub number_after : q.number ≡ p.number
  number_after = ap (λ (v : PassView). v.number) t.now

  module _ (nx : IsNext (pending_of p c) step) where
    pub allowed_before : Allowed start (state_in before) (event p.number step)
    allowed_before = allowed_then p step n q t

    -- what the step tells, in the state before it
    pub tells : step_answer start (state_in before) p.number ≡ told_by start.cap step (stage_for start (state_in before) p.number step) (answer_of start (state_in before) p.number step)
    tells = elim (next_cases (pending_of p c) step nx) [
      | inl is ↦ ap (λ (m : Move). told_by start.cap m (stage_for start (state_in before) p.number m) (answer_of start (state_in before) p.number m)) (next_before ∙ is)
      | inr other ↦
          ap (λ (m : Move). told_by start.cap m (stage_for start (state_in before) p.number m) (answer_of start (state_in before) p.number m)) (next_before ∙ other.2)
          ∙ sym (ap (λ (m : Move). told_by start.cap m (stage_for start (state_in before) p.number m) (answer_of start (state_in before) p.number m)) other.3)
    ]

    -- the first Fill in any free row leaves the call going too
    fills_any : (row : ℕ) → step ≡ Fill row Lo → Follows before (with_move before p.number step) p.number told.Going
    fills_any row is =
        let e : Event = event p.number step in
        let next : State = effect start (state_in before) e in
        let there : state_in (with_move before p.number step) ≡ next = run_push start t.before e (opened start) in
        let underway = calls_stay_underway start t.before h.legal.0 legal_before.1 e allowed_before (λ kind leaves. cc (is, leaves)) call_before in (
          subst (λ (x : State). IsUnderway start x p.number) (sym there) underway,
          λ k rows. elim (steps_run_out start t.before h.legal.0 legal_before.1 e k allowed_before rows (in_call start t.before h.legal.0 legal_before.1 p.number h.inside call_before)) [
            | inl fewer ↦ subst (λ (x : State). steps_left start x p.number k < steps_left start (state_in before) p.number k) (sym there) fewer
            | inr lasts ↦ elim lasts [ inl behind ↦ cc (is, behind.3) | inr lost ↦ cc (is, lost.2) ]
          ],
        )

    follows_before : Follows before (with_move before p.number step) p.number (step_answer start (state_in before) p.number)
    follows_before = elim (next_cases (pending_of p c) step nx) [
      | inl is ↦ subst (λ (m : Move). Follows before (with_move before p.number m) p.number (step_answer start (state_in before) p.number)) (next_before ∙ is) (follows start t.before legal_before.0 legal_before.1 p.number h.inside call_before)
      | inr other ↦ subst (Follows before (with_move before p.number step) p.number) (sym (tells ∙ ap (λ (m : Move). told_by start.cap m (stage_for start (state_in before) p.number m) (answer_of start (state_in before) p.number m)) other.3)) (fills_any other.1 other.3)
    ]

    -- what was logged since by others
    others : (more : List Event) × (p.seen.log ++ more ≡ t.before)
    others = t.begins

    steps_before : (k : ℕ) → steps_left start (state_in before) p.number k ≡ steps_left start (state_in p.seen) p.number k
    steps_before k =
        let parts = legal_parts start p.seen.log others.0 (opened start) (subst (λ (l : List Event). Legal start l (opened start)) (sym others.1) legal_before.1) in
        let none : events_of p.number others.0 ≡ [] = none_after funnel p.number p.seen.log others.0 (ap (events_of p.number) others.1 ∙ t.events) in
        ap (λ (l : List Event). steps_left start (run start l (opened start)) p.number k) (sym others.1)
        ∙ ap (λ (x : State). steps_left start x p.number k) (run_parts start p.seen.log others.0 (opened start))
        ∙ others_cost start h.legal.0 p.number k p.seen.log others.0 h.legal.1 parts.1 none

    -- so it holds from where the pass was
    abbrev Told : CoreStep → Type 0
    Told told = Follows before (with_move before p.number step) p.number told → Follows p.seen (with_move before p.number step) p.number told

    follows_from : (told : CoreStep) → Told told
    follows_from (told.Ready reply) f = (f.0, f.1, joined_from start p.seen.log t.before (with_move before p.number step) p.number t.begins f.2)
    follows_from told.Going f = (f.0, λ k rows. let l = f.1 k rows in omega (arith, l, steps_before k))
    follows_from (told.NotYet why) f = f

    pub follows_here : (told : CoreStep) → told ≡ step_answer start (state_in before) p.number → Follows p.seen q.seen p.number told
    follows_here told tells = subst (λ (v : PassView). Follows p.seen v.seen p.number told) (sym t.now) (follows_from told (subst (Follows before (with_move before p.number step) p.number) (sym tells) follows_before))

    -- what the step tells
    pub went : (told : CoreStep) → told ≡ step_answer start (state_in before) p.number → HasSameCall p q → Went (pending_of p c) told q
    went told tells same = record {
      inside = h.inside;
      call = h.call;
      step = step;
      next = nx;
      number = n;
      stepped = t;
      later = later_by p step n q t;
      tells = tells;
      follows = follows_here told tells;
      replied = replied_by p.seen q told (subst (λ (k : ℕ). Follows p.seen q.seen k told) (sym number_after) (follows_here told tells)) t.legal;
      few = few_left start p.seen.log h.legal.0 h.legal.1 p.number h.inside h.call;
      same = same;
    }

    -- how far the call has come then
    fills_there : (kind : Kind) (level : ℕ) → 1 ≤ level → level ≤ start.shape.levels → FillsAt (own_of q).stages (own_of q).caller.position kind level
        → FillsAt (own_of p).stages (own_of p).caller.position kind level × ((r : ℕ) → IsFreeFor start (state_in p.seen) p.number kind level r → IsFreeFor start (state_in q.seen) p.number kind level r)
    fills_there kind level low high fills =
        let own_now : own_of q ≡ own start (effect start (state_in before) (event p.number step)) p.number = (λ i. own (t.now i).seen.start (state_in (t.now i).seen) (t.now i).number) ∙ ap (λ (x : State). own start x p.number) (run_push start t.before (event p.number step) (opened start)) in
        let after = subst (λ (o : Own). FillsAt o.stages o.caller.position kind level) own_now fills in
        let none : Begins step kind → ⊥ = begins_not start (state_in before) p.number step kind c.kind c.level c.word (ap (λ (o : Own). o.caller.position) own_before ∙ h.course.position) allowed_before in
        let was = rows_stay_for_filling start t.before h.legal.0 legal_before.1 (event p.number step) allowed_before p.number kind level low high (λ same. none) after in (
          subst (λ (o : Own). FillsAt o.stages o.caller.position kind level) own_before was.0,
          λ r free. subst (λ (x : State). IsFreeFor start x p.number kind level r) (sym state_after)
              (was.1 r (free_is_own start (state_in p.seen) (state_in before) p.number own_before kind level r free)),
        )

    pub holds_then : (c' : Course) → c'.kind ≡ c.kind → c'.rows ≡ c.rows → IsCourseOf start (own_of q) c' → HasCall q.seen p.number → Holds q c'
    holds_then c' kind rows course call = record {
      inside = subst (λ (v : PassView). v.number < v.seen.start.shape.passes) (sym t.now) h.inside;
      legal = t.legal;
      call = subst (λ (k : ℕ). HasCall q.seen k) (sym number_after) call;
      course = subst (λ (b : Start). IsCourseOf b (own_of q) c') (sym (ap (λ (v : PassView). v.seen.start) t.now)) course;
      chosen = chosen_then c' kind rows;
    }
      where
        -- by the same names
        moved : (v w : PassView) (k k' : Kind) (xs ys : List ℕ) (level : ℕ) → v.number ≡ w.number → v.seen.start ≡ w.seen.start → k ≡ k' → xs ≡ ys
            → (slice_index_or xs (level - 1) 0 < v.seen.start.shape.rows) × IsFreeFor v.seen.start (state_in w.seen) v.number k level (member v.seen.start.shape level v.number * v.seen.start.shape.rows + slice_index_or xs (level - 1) 0)
            → (slice_index_or ys (level - 1) 0 < w.seen.start.shape.rows) × IsFreeFor w.seen.start (state_in w.seen) w.number k' level (member w.seen.start.shape level w.number * w.seen.start.shape.rows + slice_index_or ys (level - 1) 0)
        moved v w k k' xs ys level number start kind rows free =
            subst (λ (z : ℕ × Start × Kind × List ℕ). (slice_index_or z.3 (level - 1) 0 < z.1.shape.rows) × IsFreeFor z.1 (state_in w.seen) z.0 z.2 level (member z.1.shape level z.0 * z.1.shape.rows + slice_index_or z.3 (level - 1) 0)) (λ i. (number i, start i, kind i, rows i)) free

        chosen_then : (c' : Course) → c'.kind ≡ c.kind → c'.rows ≡ c.rows → HasChosen q c'
        chosen_then c' kind rows = record {
          rows = λ level inside fills.
              let here : IsLevel start.shape level = subst (λ (v : PassView). IsLevel v.seen.start.shape level) t.now inside in
              let both = fills_there c.kind level here.0 here.1 (subst (λ (k : Kind). FillsAt (own_of q).stages (own_of q).caller.position k level) kind fills) in
              let old = h.chosen.rows level here both.0 in
              moved p q c.kind c'.kind c.rows c'.rows level (sym number_after) (sym (ap (λ (v : PassView). v.seen.start) t.now)) (sym kind) (sym rows) (old.0, both.1 _ old.1);
        }
