-- What holds after the next step of a pass's call.
use Rattle.std.proofs.Common.{◌≡◌, inl, inr, ℕ, zero, suc, ◌*◌, ◌<◌, List, [], ◌∷◌, ◌++◌, Bool, true, false, refl, sym, ◌∙◌, ap, subst}
use Rattle.std.specs.Prelude.{if◌then◌else◌, ◌==◌, nat_lt}
use Rattle.std.proofs.lemmas.Bool.{false≢true, eqb-true}
use Rattle.fn_model.specs.declared.Call.{Call}
use Rattle.fn_model.specs.declared.Kind.{Kind}
use Rattle.fn_model.specs.Calls.{own}
use Rattle.fn_rows.specs.declared.Stage.{Stage}
use Rattle.fn_rows.specs.declared.Stage.TheVariants.{Waiting, Lead, Late, Got}
use Rattle.fn_rows.specs.Machine as local_step
use Rattle.fn_rows.proofs.Put.{put_here}
use Rattle.fn_rows.specs.Machine.{looked}
use Rattle.fn_core.specs.Tree.{aggregator, member, members}
use Rattle.fn_core.specs.declared.Event.{Event}
use Rattle.fn_core.specs.declared.Move.{Move}
use Rattle.fn_core.specs.declared.Move.TheVariants.{Scan, See, Announce, Arrive, Look, Close, Apply, Head, Fill, Point, Publish, Peek, Leave, Load, Exchange, Direct, Glance}
use Rattle.fn_core.specs.declared.answer.Answer.TheVariants as answers
use Rattle.fn_core.specs.declared.answer.CoreStep.{CoreStep}
use Rattle.fn_core.specs.declared.answer.CoreStep.TheVariants.{Going, Ready, NotYet}
use Rattle.fn_core.specs.declared.answer.Why.TheVariants.{Behind}
use Rattle.fn_core.specs.State.{Start, Position, Resting, Trying, Climbing, Deciding, Caller, State, opened, history_in, stage, reply_of}
use Rattle.fn_core.specs.Machine.{IsStart, May, Legal, run, effect, moves, place}
use Rattle.fn_core.specs.Fields.{answer_of, exchange_answer}
use Rattle.fn_core.specs.Steps.{loaded}
use Rattle.fn_core.specs.Bound.{steps_left}
use Rattle.fn_core.specs.Order.{next_move}
use Rattle.fn_core.specs.Laws.{HasReply, IsUnderway, IsInCall, IsBehind, HasLost, HoldsRows}
use Rattle.fn_core.specs.Calls.{CoreLog, HasFewLeft, state_in, with_move, stage_for, look_told, exchange_told, told_by, step_answer, Follows}
use Rattle.fn_core.proofs.Whole.{Whole, FitsAt}
use Rattle.fn_core.proofs.Counted.{IsCounted, opened_counted}
use Rattle.fn_core.proofs.Log.{opened_whole}
use Rattle.fn_core.proofs.Members.{member_within}
use Rattle.fn_core.proofs.Places.{stage_here}
use Rattle.fn_core.proofs.Turns.{looks}
use Rattle.fn_core.proofs.Owned.{Owned, opened_owned, log_owned, out_idle, nowhere}
use Rattle.fn_core.proofs.Underway.{underway_kept}
use Rattle.fn_core.proofs.Measure.{steps_run_out, calls_are_short}
use Rattle.fn_core.proofs.Joins.{own_calls_grow_by_one}
use Rattle.fn_core.proofs.Laws.{replies_are_right}
use Rattle.fn_core.proofs.Filling.{calls_always_go_on, run_push}

-- a log and what goes on from it
pub legal_parts : (start : Start) (earlier later : List Event) (s : State) → Legal start (earlier ++ later) s → Legal start earlier s × Legal start later (run start earlier s)
legal_parts start [] later s legal = (tt, legal)
legal_parts start (event ∷ earlier) later s legal = let rest = legal_parts start earlier later (effect start s event) legal.1 in ((legal.0, rest.0), rest.1)

pub run_parts : (start : Start) (earlier later : List Event) (s : State) → run start (earlier ++ later) s ≡ run start later (run start earlier s)
run_parts start [] later s = refl
run_parts start (event ∷ earlier) later s = run_parts start earlier later (effect start s event)

-- which steps tell something of their own
abbrev is_look : Move → Bool
is_look (Look kind level) = true
is_look _ = false

abbrev is_exchange : Move → Bool
is_exchange (Exchange kind amount) = true
is_exchange _ = false

abbrev is_waiting : Stage → Bool
is_waiting (Waiting at) = true
is_waiting _ = false

abbrev is_last : Move → Bool
is_last (Leave kind (suc zero)) = true
is_last _ = false

module _ (start : Start) (log : List Event) (ok : IsStart start) (legal : Legal start log (opened start)) (p : ℕ) (range : p < start.shape.passes) where
  abbrev s : State
  s = run start log (opened start)

  abbrev old : CoreLog
  old = record { start = start; log = log }

  abbrev event : Move → Event
  event step = record { pass = p; step = step }

  all : Whole start s × IsCounted start s × Owned start s
  all = log_owned start ok log (opened start) (opened_whole start ok) (opened_counted start) (opened_owned start) legal

  -- what holds in the next state where a step tells this
  abbrev Then : State → CoreStep → Type 0
  Then next (Ready reply) = ((next.callers p).position ≡ Resting) × HasReply start (history_in start next) (next.callers p).last reply
      × ((earlier later : List Event) → log ≡ earlier ++ later → (IsUnderway start (run start earlier (opened start)) p → ⊥) → (next.callers p).made ≡ suc ((run start earlier (opened start)).callers p).made
      → own p (history_in start next) ≡ own p (history_in start (run start earlier (opened start))) ++ (next.callers p).last ∷ [])
  Then next Going = IsUnderway start next p × ((n : ℕ) → HoldsRows start p n → steps_left start next p n < steps_left start s p n)
  Then next (NotYet why) = IsUnderway start next p

  -- the call ends
  ended : (kind : Kind) → May start s p (Leave kind 1) → Then (moves start s p (Leave kind 1)) (Ready (reply_of start.cap kind (stage start s kind 1 p)))
  ended kind may =
      let base : ℕ = may.1.0 in
      let ahead : ℕ = may.1.1 in
      let got : stage start s kind 1 p ≡ Got base ahead = may.1.2 in
      let next : State = moves start s p (Leave kind 1) in
      let caller : next.callers p ≡ record (s.callers p) { position = Resting } = put_here s.callers p (record (s.callers p) { position = Resting }) p refl in
      let last : (next.callers p).last ≡ (s.callers p).last = ap (λ (c : Caller). c.last) caller in
      let right = replies_are_right start log ok legal p kind base ahead got in (
        ap (λ (c : Caller). c.position) caller,
        subst (λ (call : Call). HasReply start (history_in start s) call (reply_of start.cap kind (stage start s kind 1 p))) (sym last)
            (subst (λ (g : Stage). HasReply start (history_in start s) (s.callers p).last (reply_of start.cap kind g)) (sym got) right.1),
        λ earlier later same idle made. (
            let parts = legal_parts start earlier later (opened start) (subst (λ (l : List Event). Legal start l (opened start)) same legal) in
            let before : State = run start earlier (opened start) in
            let here : s ≡ run start later before = ap (λ (l : List Event). run start l (opened start)) same ∙ run_parts start earlier later (opened start) in
            let grown = own_calls_grow_by_one start earlier ok parts.0 later parts.1 p kind base ahead idle
            (ap (λ (x : State). (x.callers p).made) (sym here) ∙ sym (ap (λ (c : Caller). c.made) caller) ∙ made)
            (ap (λ (x : State). stage start x kind 1 p) (sym here) ∙ got) in
            ap (λ (x : State). own p (history_in start x)) here ∙ grown
            ∙ ap (λ (call : Call). own p (history_in start before) ++ call ∷ []) (ap (λ (x : State). (x.callers p).last) (sym here) ∙ sym last)
            ),
      )

  -- a call that is underway is one that climbs, or has loaded a word at the top
  pub in_call : IsUnderway start s p → IsInCall s p
  in_call u = by_position (s.callers p).position refl (all.0.fits p)
    where
      by_position : (position : Position) → (s.callers p).position ≡ position → FitsAt start s p position → IsInCall s p
      by_position Resting is fit = absurd (out_idle start ok s all.0 all.1 all.2 p range fit u)
      by_position (Trying word) is fit = absurd (out_idle start ok s all.0 all.1 all.2 p range fit u)
      by_position (Climbing kind level) is fit = inl (kind, level, is)
      by_position (Deciding kind level word) is fit = inr (kind, level, word, is)

  kept : (step : Move) → is_last step ≡ false → May start s p step → IsUnderway start s p → IsUnderway start (moves start s p step) p
  kept step further may u = underway_kept start ok s all.0 all.1 all.2 p range step may (λ kind is. false≢true (sym further ∙ ap is_last is)) u

  -- the call goes on
  goes : (step : Move) → is_last step ≡ false → (IsBehind start s (event step) → ⊥) → (HasLost s (event step) → ⊥) → May start s p step → IsUnderway start s p → Then (moves start s p step) Going
  goes step further ahead won may u = (
    kept step further may u,
    λ n holds. elim (steps_run_out start log ok legal (event step) n (range, may) holds (in_call u)) [
      | inl fewer ↦ fewer
      | inr (inl behind) ↦ absurd (ahead behind)
      | inr (inr lost) ↦ absurd (won lost)
    ],
  )

  plain : (step : Move) → is_look step ≡ false → is_exchange step ≡ false → is_last step ≡ false → May start s p step → IsUnderway start s p → Then (moves start s p step) Going
  plain step look exchange further may u =
      goes step further (λ behind. false≢true (sym look ∙ ap is_look behind.3)) (λ lost. false≢true (sym exchange ∙ ap is_exchange lost.2)) may u

  -- a look
  look_follows : (kind : Kind) (level : ℕ) → May start s p (Look kind level) → IsUnderway start s p
      → Then (moves start s p (Look kind level)) (look_told (stage start s kind level p) (answers.Word (place start s kind level p).done))
  look_follows kind zero may u = nowhere start ok s all.0 all.1 all.2 p range kind may.0
  look_follows kind (suc below) may u =
      subst (λ (g : Stage). Then next (look_told g (answers.Word done))) (sym may.1.1) (by_test (nat_lt done at) refl)
    where
      at : ℕ
      at = may.1.0

      level : ℕ
      level = suc below

      done : ℕ
      done = (place start s kind (suc below) p).done

      next : State
      next = moves start s p (Look kind (suc below))

      after : stage start next kind (suc below) p ≡ looked at done
      after = stage_here start ok.shape s kind below p (λ m. local_step.Look m)
          ∙ (looks (members start.shape (suc below) (aggregator start.shape p (suc below))) start.shape.rows (s.rows kind (suc below) (aggregator start.shape p (suc below))) (all.0.good.inv kind (suc below) (aggregator start.shape p (suc below))) (member start.shape (suc below) p) (member_within start.shape ok.shape below p range) at may.1.1).here

      by_test : (test : Bool) → nat_lt done at ≡ test → Then next (if test then NotYet (Behind done at) else Going)
      by_test true is = kept (Look kind (suc below)) refl may u
      by_test false is = goes (Look kind (suc below)) refl not_behind (λ lost. false≢true (ap is_exchange lost.2)) may u
        where
          come : (test : Bool) → is_waiting (if test then Lead at else Late at) ≡ false
          come true = refl
          come false = refl

          not_behind : IsBehind start s (event (Look kind (suc below))) → ⊥
          not_behind behind =
              let same : Look kind (suc below) ≡ Look behind.0 behind.1 = behind.3 in
              let kinds : behind.0 ≡ kind = cc in
              let levels : behind.1 ≡ suc below = cc in
              let waits : stage start next kind (suc below) p ≡ Waiting behind.2 = subst (λ (k : Kind). stage start next k (suc below) p ≡ Waiting behind.2) kinds (subst (λ (l : ℕ). stage start next behind.0 l p ≡ Waiting behind.2) levels behind.4) in
              let past : looked at done ≡ (if at == done then Lead at else Late at) = ap (λ (test : Bool). if test then Waiting at else (if at == done then Lead at else Late at)) is in
              false≢true (sym (come (at == done)) ∙ ap is_waiting (sym past ∙ sym after ∙ waits))

  -- an exchange
  exchange_follows : (kind : Kind) (amount : ℕ) → May start s p (Exchange kind amount) → IsUnderway start s p → Then (moves start s p (Exchange kind amount)) (exchange_told (exchange_answer s.main (s.callers p).position))
  exchange_follows kind amount (inl may) u = absurd (out_idle start ok s all.0 all.1 all.2 p range (subst (FitsAt start s p) may.1 (all.0.fits p)) u)
  exchange_follows kind amount (inr may) u =
      subst (λ (x : Position). Then next (exchange_told (exchange_answer s.main x))) (sym may.2) (by_test (s.main == word) refl)
    where
      word : ℕ
      word = may.1

      next : State
      next = moves start s p (Exchange kind amount)

      by_test : (test : Bool) → (s.main == word) ≡ test → Then next (exchange_told (if test then answers.Won else answers.Lost word s.main))
      by_test true is = goes (Exchange kind amount) refl (λ behind. false≢true (ap is_look behind.3)) (λ lost. lost.3 (eqb-true s.main word is ∙ sym (ap loaded may.2))) (inr may) u
      by_test false is = kept (Exchange kind amount) refl (inr may) u

  by_move : (step : Move) → May start s p step → IsUnderway start s p → Then (moves start s p step) (told_by start.cap step (stage_for start s p step) (answer_of start s p step))
  by_move (Scan kind level other) may u = plain (Scan kind level other) refl refl refl may u
  by_move (See kind level) may u = plain (See kind level) refl refl refl may u
  by_move (Announce kind level) may u = plain (Announce kind level) refl refl refl may u
  by_move (Arrive kind level weight) may u = plain (Arrive kind level weight) refl refl refl may u
  by_move (Look kind level) may u = look_follows kind level may u
  by_move (Close kind level) may u = plain (Close kind level) refl refl refl may u
  by_move (Apply weight) may u = plain (Apply weight) refl refl refl may u
  by_move (Head kind level) may u = plain (Head kind level) refl refl refl may u
  by_move (Fill row field) may u = plain (Fill row field) refl refl refl may u
  by_move (Point kind level row) may u = plain (Point kind level row) refl refl refl may u
  by_move (Publish kind level) may u = plain (Publish kind level) refl refl refl may u
  by_move (Peek row field) may u = plain (Peek row field) refl refl refl may u
  by_move (Leave kind zero) may u = nowhere start ok s all.0 all.1 all.2 p range kind may.0
  by_move (Leave kind (suc zero)) may u = ended kind may
  by_move (Leave kind (suc (suc below))) may u = plain (Leave kind (suc (suc below))) refl refl refl may u
  by_move (Load purpose) may u = plain (Load purpose) refl refl refl may u
  by_move (Exchange kind amount) may u = exchange_follows kind amount may u
  by_move (Direct amount) may u = plain (Direct amount) refl refl refl may u
  by_move Glance may u = plain Glance refl refl refl may u

  -- the call comes to an exchange only once it has loaded the main word at the top
  exchange_left : IsUnderway start s p → (kind : Kind) (amount n : ℕ) → next_move start s p ≡ Exchange kind amount → steps_left start s p n ≡ 8 * start.shape.levels
  exchange_left u kind amount n is = by_may (subst (May start s p) is (calls_always_go_on start log ok legal p range u).1)
    where
      by_may : May start s p (Exchange kind amount) → steps_left start s p n ≡ 8 * start.shape.levels
      by_may (inl trying) = absurd (out_idle start ok s all.0 all.1 all.2 p range (subst (FitsAt start s p) trying.1 (all.0.fits p)) u)
      by_may (inr deciding) = (calls_are_short start log ok legal p n (in_call u)).1 kind deciding.0 deciding.1 deciding.2

  -- the steps that a call has left, before each of them
  pub few_left : IsUnderway start s p → HasFewLeft old p
  few_left u n holds = ((calls_are_short start log ok legal p n (in_call u)).0, (λ kind amount is. exchange_left u kind amount n is))

  told_so : (step : Move) (told : CoreStep) → Then (state_in (with_move old p step)) told → Follows old (with_move old p step) p told
  told_so step (Ready reply) h = h
  told_so step Going h = h
  told_so step (NotYet why) h = h

  -- what the next step of a call tells is so
  pub follows : IsUnderway start s p → Follows old (with_move old p (next_move start s p)) p (step_answer start s p)
  follows u =
      let step : Move = next_move start s p in
      let allowed = calls_always_go_on start log ok legal p range u in
      told_so step (step_answer start s p) (subst (λ (x : State). Then x (step_answer start s p)) (sym (run_push start log (event step) (opened start))) (by_move step allowed.1 u))
