-- What a step of a pass owes, and what it tells, over plain variables.
use Rattle.std.proofs.Common.{◌≡◌, ℕ, ◌<◌, List, [], ◌∷◌, ◌++◌, slice_index, refl, sym, ap, ◌∙◌, subst, arith, eq-eqb}
use Rattle.atomic_table.specs.Table.{Me, Allows}
use Rattle.atomic_table.specs.Seated.{TableId}
use Rattle.running.specs.Running.{times, numbers_of, log_of, view, knows, Running, Took, TookAt, Ready}
use Rattle.running.specs.Machine as machine
use Rattle.running.proofs.Logs.{legal_begins, own_same, guard_at}
use Rattle.running.proofs.Keeps.{takes, ready_one}
use Rattle.fn_layout.specs.Words.{IsNamed, number}
use Rattle.fn_core.specs.declared.Start.{Start}
use Rattle.fn_core.specs.declared.Event.{Event}
use Rattle.fn_core.specs.declared.Move.{Move}
use Rattle.fn_core.specs.State.{State, opened}
use Rattle.fn_core.specs.Machine.{Allowed, run}
use Rattle.fn_core.specs.Words.{Own, name_of, word, words_of}
use Rattle.fn_core.specs.After.{own_after}
use Rattle.fn_core.specs.Calls.{state_in, IsLegal}
use Rattle.fn_core.proofs.Public.{words_are_found}
use Rattle.fn_table.specs.Funnel.{MayTake, funnel}
use Rattle.fn_table.specs.Seen.{PassView, May, Stepped, own_of, event, place}
use Rattle.fn_table.specs.declared.spots.Spots.{Spots}
use Rattle.fn_table.specs.Spots.{spots_of}
use Rattle.fn_table.specs.Seats.{Known, shown, HasOne, IsStep, IsHere, taken_by}
use Rattle.fn_table.proofs.FunnelLaws.{laws, logs_are_legal, guards_are_own, steps_are_told}
use Rattle.fn_table.proofs.States.{own_is}

pub keeps_one : (n : ℕ) → 0 < times n (n ∷ [])
keeps_one n = let e = eq-eqb n n refl in rw e (omega arith)

-- the event that a move is for this seat
abbrev pub event_of : Known → Move → Event
event_of v step = taken_by (numbers_of v.parts) step

-- what holds of a seat with one number
at_one : (P : Known → Type 0) (n : ℕ) (v : Known) → HasOne n v → P (knows v.start (n ∷ []) (log_of v.parts)) → P v
at_one P n v one h = subst (λ ps. P (view v.start ps)) (sym one.parts) h

pub from_one : (P : Known → Type 0) (n : ℕ) (v : Known) → HasOne n v → P v → P (knows v.start (n ∷ []) (log_of v.parts))
from_one P n v one h = subst (λ ps. P (view v.start ps)) one.parts h

-- a step that a pass may take is one that its own lets it take
pub may_take : (p : PassView) (step : Move) → IsLegal p.seen → May p step → MayTake p.seen.start (own_of p) (event p.number step)
may_take p step legal may = (legal.0, state_in p.seen, refl, may)

-- .. and so after each log that has the same own
pub may_take_after : (p : PassView) (step : Move) → IsLegal p.seen → May p step → MayTake p.seen.start (machine.own_of funnel p.seen.start p.seen.log p.number) (event p.number step)
may_take_after p step legal may = subst (λ (o : Own). MayTake p.seen.start o (event p.number step)) (sym (own_is p.seen.start p.seen.log p.number)) (may_take p step legal may)

-- what is the same pass may take the same steps
pub may_as : {p q : PassView} (step : Move) → q ≡ p → May p step → May q step
may_as step is may = subst (λ (x : PassView). May x step) (sym is) may

-- the word of the step is one of the funnel's, and what is found there is the word of its name
pub named : (p : PassView) (step : Move) → IsLegal p.seen → May p step → IsNamed p.seen.start.shape (name_of p.seen.start.shape p.number step)
named p step legal may = (words_are_found p.seen.start p.seen.log (event p.number step) legal.0 legal.1 may).0

ready : (z : TableId) (n : ℕ) (v : Known) (step : Move) (f : ℕ → ℕ) → HasOne n v → IsLegal (shown z n v).seen → May (shown z n v) step → IsStep (shown z n v) step f → Ready funnel v (event_of v step) (place (shown z n v) step) f
ready z n v step f one legal may does =
    let p : PassView = shown z n v in
    at_one (λ u. Ready funnel u (event_of u step) (place (shown z n u) step) f) n v one
    (ready_one funnel laws v.start (n ∷ []) (log_of v.parts) (event n step) (place p step) f (keeps_one n) refl (may_take_after p step legal may)
    (λ log ok same. does.change may log ok (same ∙ own_is v.start (log_of v.parts) n) ∙ ap (λ (o : Own). funnel.change v.start o (event n step) (machine.found funnel v.start log (event n step))) (sym (own_is v.start (log_of v.parts) n))))

-- a step that is taken found some number
pub took_some : {e : Event} {v w : Known} (k : ℕ) → TookAt funnel e v k w → (n : ℕ) × TookAt funnel e v n w
took_some k t = (k, t)

-- what an operation on the word of a step owes, where each way to take the step ends in Q
pub owes : (key : Start) (slots id : ℕ) (me : Me (Unit {0}) Known) (z : TableId) (n : ℕ) {z' : TableId} {p : PassView} {step : Move} {at : ℕ} {f : ℕ → ℕ} (Q : ℕ → Known → Type 0)
    → shown z n me.0 ≡ p → HasOne n me.0 → IsLegal (shown z n me.0).seen → May p step → IsHere z' at p step → IsStep p step f → ((k : ℕ) (w : Known) → TookAt funnel (event_of me.0 step) me.0 k w → Q k w)
    → (z ≡ z') × (at < z'.words) × Allows (Running funnel key) slots id me at f (λ k after. Q k after.0 × (after.1 ≡ me.1))
owes key slots id me z n {step = step} {at = at} {f = f} Q is one legal may here does ends =
    let r = subst (λ q. May q step → IsStep q step f → Ready funnel me.0 (event_of me.0 step) (place q step) f) is (ready z n me.0 step f one legal) may does in (
      ap (λ (q : PassView). q.table) is ∙ here.table,
      here.inside,
      takes funnel laws key slots id me (event_of me.0 step) at f (λ k after. Q k after.0 × (after.1 ≡ me.1)) (subst (λ w. Ready funnel me.0 (event_of me.0 step) w f) (sym here.place) r) (λ k w t. (ends k w t, refl)),
    )

-- after a log in which the event may happen, the number found is the word of its name
pub word_there : (start : Start) (log : List Event) (pass : ℕ) (step : Move) → machine.IsLegal funnel start log → MayTake start (machine.own_of funnel start log pass) (event pass step)
    → machine.found funnel start log (event pass step) ≡ word start (run start log (opened start)) (name_of start.shape pass step)
word_there start log pass step legal guard =
    let s : State = machine.state_of funnel start log in
    let l = logs_are_legal start log legal in
    let allowed = subst (λ (x : State). Allowed start x (event pass step)) (sym l.1) (guards_are_own start s (event pass step) guard) in
    ap (λ (x : State). slice_index (words_of start x) (number start.shape (name_of start.shape pass step))) (sym l.1) ∙ (words_are_found start log (event pass step) guard.0 l.0 allowed).1

-- what they tell of the pass
abbrev pub tells : (z z' : TableId) (n : ℕ) (v w : Known) (step : Move) (k : ℕ) → IsLegal (shown z n v).seen → z' ≡ z → TookAt funnel (event n step) (knows v.start (n ∷ []) (log_of v.parts)) k w → Stepped (shown z n v) step k (shown z' n w)
tells z z' n v w step k sound same t =
    let b = v.start in
    let log = t.took.before in
    let fit = t.took.parts.0 in
    let e = event n step in
    let events = fit.own n (keeps_one n) in
    let legal = legal_begins funnel b log (e ∷ []) t.took.legal in
    let here : machine.own_of funnel b log n ≡ machine.own_of funnel b (log_of v.parts) n = own_same funnel b laws n (log_of v.parts) log legal fit.begins events in
    let guard = guard_at funnel b log e [] t.took.legal in
    let whole = logs_are_legal b (log ++ e ∷ []) t.took.legal in
    record {
      before = log;
      now = λ i. shown (same i) n (t.took.now i);
      legal = subst (λ (x : Known). IsLegal (shown z' n x).seen) (sym t.took.now) (sound.0, whole.0);
      begins = fit.begins;
      events = events;
      answer = t.answer ∙ word_there b log n step legal guard;
      own = ap (λ (x : Known). own_of (shown z' n x)) t.took.now ∙ sym (own_is b (log ++ e ∷ []) n)
          ∙ steps_are_told b log e legal guard ∙ (λ i. own_after b n step (sym t.answer i) ((here ∙ own_is b (log_of v.parts) n) i));
    }

pub step_tells : (z z' : TableId) (n : ℕ) (v w : Known) (p : PassView) (step : Move) (k : ℕ) → shown z n v ≡ p → HasOne n v → IsLegal (shown z n v).seen → z' ≡ z → TookAt funnel (event_of v step) v k w → Stepped p step k (shown z' n w)
step_tells z z' n v w p step k is one legal same t =
    subst (λ q. Stepped q step k (shown z' n w)) is (tells z z' n v w step k legal same (from_one (λ u. TookAt funnel (event_of u step) u k w) n v one t))

-- the new seat still has its one number
pub one_still : (n : ℕ) (v w : Known) (step : Move) → HasOne n v → Took funnel (event_of v step) v w → HasOne n w
one_still n v w step one t =
    let t' = from_one (λ u. Took funnel (event_of u step) u w) n v one t in
    subst (λ u. HasOne n u) (sym t'.now) (record { parts = refl })

-- what holds of the seat of a pass
abbrev pub IsSeatOf : ℕ → Spots → TableId → Me (Unit {0}) Known → Type 0
IsSeatOf n spots z me = HasOne n me.0 × (me.1 ≡ []) × IsLegal (shown z n me.0).seen × (n < me.0.start.shape.passes) × (spots ≡ spots_of me.0.start.shape n)

-- it holds after the step too
pub seat_still : (z : TableId) (n : ℕ) (spots : Spots) (me me' : Me (Unit {0}) Known) (step : Move) (k : ℕ) → IsSeatOf n spots z me → TookAt funnel (event_of me.0 step) me.0 k me'.0 → me'.1 ≡ me.1 → IsSeatOf n spots z me'
seat_still z n spots me me' step k is t same =
    let start : me.0.start ≡ me'.0.start = sym (ap (λ (u : Known). u.start) t.took.now) in (
      one_still n me.0 me'.0 step is.0 t.took,
      same ∙ is.1,
      (tells z z n me.0 me'.0 step k is.2 refl (from_one (λ u. TookAt funnel (event_of u step) u k me'.0) n me.0 is.0 t)).legal,
      subst (λ (b : Start). n < b.shape.passes) start is.3,
      is.4 ∙ ap (λ (b : Start). spots_of b.shape n) start,
    )
