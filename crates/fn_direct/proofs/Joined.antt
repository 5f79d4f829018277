-- A step of an idle pass on the main word is a call of its own, wherever the others stand.
use Rattle.std.proofs.Common.{◌≡◌, ℕ, ◌+◌, ◌-◌, ◌<◌, ◌≤◌, length, length-append, sum, List, [], ◌∷◌, ◌++◌, Bool, refl, sym, ◌∙◌, ap, subst, arith, append_assoc}
use Rattle.std.specs.Prelude.{if◌then◌else◌}
use Rattle.std.proofs.lemmas.Bool.{eq-eqb, ne_eqb}
use Rattle.std.specs.List.{Contains}
use mathlib.Core.List.{IsPrefix}
use Rattle.fn_model.specs.declared.Call.{Call}
use Rattle.fn_model.specs.declared.Kind.{Kind}
use Rattle.fn_model.specs.declared.Kind.TheVariants.{Add, Read}
use Rattle.fn_model.specs.Calls.{place}
use Rattle.fn_model.specs.Histories.{OwnStep}
use Rattle.fn_model.specs.Calls.{own as own_calls}
use Rattle.fn_core.specs.declared.Event.{Event}
use Rattle.fn_core.specs.declared.Start.{Start}
use Rattle.fn_core.specs.declared.Move.{Move}
use Rattle.fn_core.specs.declared.Move.TheVariants.{Load, Exchange, Direct, Glance}
use Rattle.fn_core.specs.declared.Purpose.TheVariants as purpose
use Rattle.fn_core.specs.declared.Position.{Position}
use Rattle.fn_core.specs.declared.Position.TheVariants.{Resting, Trying}
use Rattle.fn_core.specs.State.{State, Caller, opened, history_in, after_call}
use Rattle.fn_core.specs.Machine.{IsStart, Legal, Allowed, run, effect}
use Rattle.fn_core.specs.Words.{Own}
use Rattle.fn_core.specs.After.{in_position, with_call, loaded_own, exchanged_own}
use Rattle.fn_core.specs.Laws.{HasReply, MeetsMain}
use Rattle.fn_core.specs.Calls.{CoreLog, state_in, calls_in, IsLegal, IsIdle, left_of, with_move}
use Rattle.fn_core.specs.Entries.{IsAlone, EntersAlone}
use Rattle.fn_core.proofs.Public.{direct_calls_are_alone, legal_push, run_push, legal_parts, run_parts, histories_grow, places_are_beyond, replies_are_bounded, direct_replies_are_right}
use Rattle.fn_table.specs.Seen.{PassView, Stepped, event, own_of, with_log}
use Rattle.fn_table.proofs.OwnCalls.{own_kept, legal_now, is_start, legal_before, allowed_then, own_before, made_before, caller_now}
use Rattle.fn_table.specs.Called.{call_of, HasCalled, HasMadeNone}

-- From the log that an idle pass had seen to a later one, by which it has made no call, and then makes one
module _ (p : PassView) (range : p.number < p.seen.start.shape.passes) (before : List Event) (ok : IsStart p.seen.start) (legal : Legal p.seen.start before (opened p.seen.start)) (begins : IsPrefix p.seen.log before)
    (idle : IsIdle p.seen p.number) (made : ((state_in (with_log p before)).callers p.number).made ≡ ((state_in p.seen).callers p.number).made) where
  abbrev start : Start
  start = p.seen.start

  abbrev later : List Event
  later = begins.0

  parts : Legal start p.seen.log (opened start) × Legal start later (state_in p.seen)
  parts = legal_parts start p.seen.log later (opened start) (subst (λ (l : List Event). Legal start l (opened start)) (sym begins.1) legal)

  here : run start later (state_in p.seen) ≡ state_in (with_log p before)
  here = sym (run_parts start p.seen.log later (opened start)) ∙ ap (λ (l : List Event). run start l (opened start)) begins.1

  module _ (step : Move) (allowed : Allowed start (state_in (with_log p before)) (event p.number step)) (kind : Kind) (amount n : ℕ) (main : n ≡ (state_in (with_log p before)).main) (meets : MeetsMain start (state_in (with_log p before)) (event p.number step))
      (last : ((state_in (with_move (with_log p before) p.number step)).callers p.number).last ≡ call_of p kind amount)
      (left : ((state_in (with_move (with_log p before) p.number step)).callers p.number).left ≡ ((state_in p.seen).callers p.number).left - amount) (most : amount ≤ ((state_in p.seen).callers p.number).left)
      (rests : ((state_in (with_move (with_log p before) p.number step)).callers p.number).position ≡ Resting) where
    abbrev e : Event
    e = event p.number step

    abbrev new : CoreLog
    new = with_move (with_log p before) p.number step

    after : state_in new ≡ effect start (state_in (with_log p before)) e
    after = run_push start before e (opened start)

    meets_new : HasReply start (calls_in new) ((state_in new).callers p.number).last (state_in (with_log p before)).main × (own_calls p.number (calls_in new) ≡ own_calls p.number (calls_in (with_log p before)) ++ ((state_in new).callers p.number).last ∷ [])
    meets_new =
        subst (λ (s : State). HasReply start (history_in start s) (s.callers p.number).last (state_in (with_log p before)).main × (own_calls p.number (history_in start s) ≡ own_calls p.number (calls_in (with_log p before)) ++ (s.callers p.number).last ∷ [])) (sym after) meets

    met : HasReply start (calls_in new) (call_of p kind amount) n
    met =
        subst (HasReply start (calls_in new) (call_of p kind amount)) (sym main)
        (subst (λ (call : Call). HasReply start (calls_in new) call (state_in (with_log p before)).main) last meets_new.0)

    abbrev all_later : List Event
    all_later = later ++ e ∷ []

    more : Legal start all_later (state_in p.seen)
    more = legal_push start later e (state_in p.seen) parts.1 (subst (λ (s : State). Allowed start s e) (sym here) allowed)

    there : run start all_later (state_in p.seen) ≡ state_in new
    there = run_push start later e (state_in p.seen) ∙ ap (λ (s : State). effect start s e) here ∙ sym after

    pub has_called : HasCalled p kind amount n (record p { seen = new })
    has_called = record {
      met = met;
      joined = meets_new.1 ∙ ap (λ (call : Call). own_calls p.number (calls_in (with_log p before)) ++ call ∷ []) last ∙ ap (λ (calls : List Call). calls ++ call_of p kind amount ∷ []) (own_kept p range before ok legal begins idle made);
      beyond = λ i at. places_are_beyond start p.seen.log ok parts.0 all_later more p.number (call_of p kind amount).number i (omega arith) (ap (λ (s : State). place p.number (call_of p kind amount).number (history_in start s)) there ∙ at);
      bounded =
          let law = replies_are_bounded start (before ++ e ∷ []) ok (legal_push start before e (opened start) legal allowed) met.0 in
          omega (arith, law, met.4);
      spent = omega (arith, left, most);
      idle = rests;
    }

-- a call that entered the main word by itself
entered_alone : (p : PassView) (before : List Event) (step : Move) (call : Call) → EntersAlone p.seen.start (state_in (with_log p before)) (event p.number step) → ((state_in (with_move (with_log p before) p.number step)).callers p.number).last ≡ call → IsAlone (with_move (with_log p before) p.number step) call
entered_alone p before step call alone last =
    let e : Event = event p.number step in
    let new : CoreLog = with_move (with_log p before) p.number step in
    let here : Contains (state_in new).steps (OwnStep ((state_in new).callers p.number).last) = subst (λ (s : State). Contains s.steps (OwnStep (s.callers p.number).last)) (sym (run_push p.seen.start before e (opened p.seen.start))) alone in
    subst (λ (c : Call). Contains (state_in new).steps (OwnStep c)) last here

module _ (p : PassView) (idle : IsIdle p.seen p.number) where
  -- a pass that has taken some steps, and has made as many calls and has as much left as before, has made none
  pub none_made : p.number < p.seen.start.shape.passes → (new : CoreLog) → new.start ≡ p.seen.start → IsLegal new → IsPrefix p.seen.log new.log → (own_of (record p { seen = new })).caller ≡ (own_of p).caller → HasMadeNone p (record p { seen = new })
  none_made range new same legal begins caller =
      let log : List Event = new.log in
      let is : with_log p log ≡ new = ap (λ (start : Start). let core : CoreLog = record { start = start; log = log } in core) (sym same) in
      let legal_here : IsLegal (with_log p log) = subst IsLegal (sym is) legal in
      let there : (state_in (with_log p log)).callers p.number ≡ (state_in p.seen).callers p.number = ap (λ (c : CoreLog). (state_in c).callers p.number) is ∙ caller in
      record {
        calls = ap (λ (c : CoreLog). own_calls p.number (calls_in c)) (sym is) ∙ own_kept p range log legal_here.0 legal_here.1 begins idle (ap (λ (c : Caller). c.made) there);
        made = ap (λ (c : Caller). c.made) caller;
        left = ap (λ (c : Caller). c.left) caller;
        idle = ap (λ (c : Caller). c.position) caller ∙ idle;
      }

  -- one step by which the pass makes a call
  pub step_calls : (step : Move) (n : ℕ) (q : PassView) (stepped : Stepped p step n q) (kind : Kind) (amount : ℕ) → n ≡ (state_in (with_log p stepped.before)).main → MeetsMain p.seen.start (state_in (with_log p stepped.before)) (event p.number step)
      → (own_of q).caller ≡ after_call (own_of p).caller (call_of p kind amount) → amount ≤ ((state_in p.seen).callers p.number).left → HasCalled p kind amount n q
  step_calls step n q stepped kind amount main meets caller most =
      let now = caller_now p step n q stepped ∙ caller in
      subst (HasCalled p kind amount n) (sym stepped.now)
      (has_called p (allowed_then p step n q stepped).0 stepped.before (is_start p step n q stepped) (legal_before p step n q stepped) stepped.begins idle (made_before p step n q stepped) step (allowed_then p step n q stepped) kind amount n main meets
      (ap (λ (c : Caller). c.last) now) (ap (λ (c : Caller). c.left) now) most (ap (λ (c : Caller). c.position) now ∙ idle))

  step_alone : (step : Move) (n : ℕ) (q : PassView) (stepped : Stepped p step n q) (call : Call) → EntersAlone p.seen.start (state_in (with_log p stepped.before)) (event p.number step) → (own_of q).caller ≡ after_call (own_of p).caller call → IsAlone q.seen call
  step_alone step n q stepped call alone caller =
      subst (λ (v : PassView). IsAlone v.seen call) (sym stepped.now) (entered_alone p stepped.before step call alone (ap (λ (c : Caller). c.last) (caller_now p step n q stepped ∙ caller)))

  -- a step that makes no call
  pub step_makes_none : (step : Move) (n : ℕ) (q : PassView) (stepped : Stepped p step n q) → (own_of q).caller ≡ (own_of p).caller → HasMadeNone p q
  step_makes_none step n q stepped caller =
      let e : List Event = event p.number step ∷ [] in
      subst (HasMadeNone p) (sym stepped.now)
      (none_made (allowed_then p step n q stepped).0 (with_move (with_log p stepped.before) p.number step) refl (legal_now p step n q stepped) (stepped.begins.0 ++ e, sym (append_assoc p.seen.log stepped.begins.0 e) ∙ ap (λ (l : List Event). l ++ e) stepped.begins.1) (caller_now p step n q stepped ∙ caller))

  pub read_calls : (n : ℕ) (q : PassView) → Stepped p (Load purpose.Read) n q → HasCalled p Read 0 n q
  read_calls n q stepped =
      let meets = (direct_replies_are_right p.seen.start stepped.before (is_start p (Load purpose.Read) n q stepped) (legal_before p (Load purpose.Read) n q stepped) (event p.number (Load purpose.Read)) (allowed_then p (Load purpose.Read) n q stepped)).0 refl in
      step_calls (Load purpose.Read) n q stepped Read 0 stepped.answer meets (ap (λ (o : Own). o.caller) stepped.own) (omega arith)

  pub read_alone : (n : ℕ) (q : PassView) → Stepped p (Load purpose.Read) n q → IsAlone q.seen (call_of p Read 0)
  read_alone n q stepped =
      let step : Move = Load purpose.Read in
      let law = direct_calls_are_alone p.seen.start stepped.before (is_start p step n q stepped) (legal_before p step n q stepped) (event p.number step) (allowed_then p step n q stepped) in
      step_alone step n q stepped (call_of p Read 0) (law.0 refl) (ap (λ (o : Own). o.caller) stepped.own)

  pub direct_alone : (amount n : ℕ) (q : PassView) → Stepped p (Direct amount) n q → IsAlone q.seen (call_of p Add amount)
  direct_alone amount n q stepped =
      let step : Move = Direct amount in
      let law = direct_calls_are_alone p.seen.start stepped.before (is_start p step n q stepped) (legal_before p step n q stepped) (event p.number step) (allowed_then p step n q stepped) in
      step_alone step n q stepped (call_of p Add amount) (law.1 amount refl) (ap (λ (o : Own). o.caller) stepped.own)

  pub direct_calls : (amount n : ℕ) (q : PassView) → amount ≤ ((state_in p.seen).callers p.number).left → Stepped p (Direct amount) n q → HasCalled p Add amount n q
  direct_calls amount n q most stepped =
      let meets = (direct_replies_are_right p.seen.start stepped.before (is_start p (Direct amount) n q stepped) (legal_before p (Direct amount) n q stepped) (event p.number (Direct amount)) (allowed_then p (Direct amount) n q stepped)).1 amount refl in
      step_calls (Direct amount) n q stepped Add amount stepped.answer meets (ap (λ (o : Own). o.caller) stepped.own) most

  pub glance_makes_none : (n : ℕ) (q : PassView) → Stepped p Glance n q → HasMadeNone p q
  glance_makes_none n q stepped = step_makes_none Glance n q stepped (ap (λ (o : Own). o.caller) stepped.own)

  -- a load and an exchange of the main word
  module _ (m q : PassView) (kind : Kind) (amount loaded found : ℕ) (load : Stepped p (Load purpose.Try) loaded m) (exchange : Stepped m (Exchange kind amount) found q) where
    abbrev tried : PassView
    tried = record p { seen = with_move (with_log p load.before) p.number (Load purpose.Try) }

    then_exchange : Stepped tried (Exchange kind amount) found q
    then_exchange = subst (λ (x : PassView). Stepped x (Exchange kind amount) found q) load.now exchange

    abbrev o : Own
    o = in_position (own_of p) (Trying loaded)

    own_tried : own_of tried ≡ o
    own_tried = ap own_of (sym load.now) ∙ load.own ∙ ap (loaded_own loaded (own_of p)) idle

    own_then : own_of q ≡ exchanged_own p.number kind amount found o (Trying loaded)
    own_then = then_exchange.own ∙ ap (λ (x : Own). exchanged_own p.number kind amount found x x.caller.position) own_tried

    begins : IsPrefix p.seen.log then_exchange.before
    begins =
        let e : List Event = event p.number (Load purpose.Try) ∷ [] in
        let first : p.seen.log ++ (load.begins.0 ++ e) ≡ tried.seen.log = sym (append_assoc p.seen.log load.begins.0 e) ∙ ap (λ (l : List Event). l ++ e) load.begins.1 in
        ((load.begins.0 ++ e) ++ then_exchange.begins.0, sym (append_assoc p.seen.log (load.begins.0 ++ e) then_exchange.begins.0) ∙ ap (λ (l : List Event). l ++ then_exchange.begins.0) first ∙ then_exchange.begins.1)

    pub exchange_calls : found ≡ loaded → amount ≤ ((state_in p.seen).callers p.number).left → HasCalled p kind amount found q
    exchange_calls won most =
        let step : Move = Exchange kind amount in
        let at = own_before tried step found q then_exchange ∙ own_tried in
        let ok = is_start tried step found q then_exchange in
        let legal = legal_before tried step found q then_exchange in
        let allowed = allowed_then tried step found q then_exchange in
        let main : found ≡ (state_in (with_log p then_exchange.before)).main = then_exchange.answer in
        let meets = (direct_replies_are_right p.seen.start then_exchange.before ok legal (event p.number step) allowed).2 kind amount loaded refl (ap (λ (x : Own). x.caller.position) at) (sym main ∙ won) in
        let now : own_of q ≡ in_position (with_call o p.number kind amount) Resting = own_then ∙ ap (λ (b : Bool). if b then in_position (with_call o p.number kind amount) Resting else in_position o Resting) (eq-eqb found loaded won) in
        let caller = caller_now tried step found q then_exchange ∙ ap (λ (x : Own). x.caller) now in
        subst (HasCalled p kind amount found) (sym then_exchange.now)
        (has_called p allowed.0 then_exchange.before ok legal begins idle (ap (λ (x : Own). x.caller.made) at) step allowed kind amount found main meets
        (ap (λ (c : Caller). c.last) caller) (ap (λ (c : Caller). c.left) caller) most (ap (λ (c : Caller). c.position) caller))

    pub exchange_alone : found ≡ loaded → IsAlone q.seen (call_of p kind amount)
    exchange_alone won =
        let step : Move = Exchange kind amount in
        let at = own_before tried step found q then_exchange ∙ own_tried in
        let ok = is_start tried step found q then_exchange in
        let legal = legal_before tried step found q then_exchange in
        let main : found ≡ (state_in (with_log p then_exchange.before)).main = then_exchange.answer in
        let alone = (direct_calls_are_alone p.seen.start then_exchange.before ok legal (event p.number step) (allowed_then tried step found q then_exchange)).2 kind amount loaded refl (ap (λ (x : Own). x.caller.position) at) (sym main ∙ won) in
        let now : own_of q ≡ in_position (with_call o p.number kind amount) Resting = own_then ∙ ap (λ (b : Bool). if b then in_position (with_call o p.number kind amount) Resting else in_position o Resting) (eq-eqb found loaded won) in
        let caller = caller_now tried step found q then_exchange ∙ ap (λ (x : Own). x.caller) now in
        subst (λ (v : PassView). IsAlone v.seen (call_of p kind amount)) (sym then_exchange.now) (entered_alone p then_exchange.before step (call_of p kind amount) alone (ap (λ (c : Caller). c.last) caller))

    pub exchange_makes_none : (found ≡ loaded → ⊥) → HasMadeNone p q
    exchange_makes_none lost =
        let step : Move = Exchange kind amount in
        let e : List Event = event p.number step ∷ [] in
        let now : own_of q ≡ in_position o Resting = own_then ∙ ap (λ (b : Bool). if b then in_position (with_call o p.number kind amount) Resting else in_position o Resting) (ne_eqb found loaded lost) in
        let rests : (in_position o Resting).caller ≡ (own_of p).caller = ap (λ (x : Position). record (own_of p).caller { position = x }) (sym idle) in
        subst (HasMadeNone p) (sym then_exchange.now)
        (none_made (allowed_then tried step found q then_exchange).0 (with_move (with_log p then_exchange.before) p.number step) refl (legal_now tried step found q then_exchange)
        (begins.0 ++ e, sym (append_assoc p.seen.log begins.0 e) ∙ ap (λ (l : List Event). l ++ e) begins.1) (caller_now tried step found q then_exchange ∙ ap (λ (x : Own). x.caller) now ∙ rests))

module _ (p : PassView) (log : List Event) (legal : IsLegal (with_log p log)) (begins : IsPrefix p.seen.log log) where
  -- the history has only grown since
  grown : length (calls_in p.seen) ≤ length (calls_in (with_log p log))
  grown =
      let start : Start = p.seen.start in
      let parts = legal_parts start p.seen.log begins.0 (opened start) (subst (λ (l : List Event). Legal start l (opened start)) (sym begins.1) legal.1) in
      let more = histories_grow start p.seen.log legal.0 parts.0 begins.0 parts.1 in
      let same : calls_in (with_log p log) ≡ calls_in p.seen ++ more.0 =
      ap (λ (l : List Event). history_in start (run start l (opened start))) (sym begins.1) ∙ ap (λ (s : State). history_in start s) (run_parts start p.seen.log begins.0 (opened start)) ∙ more.1 in
      let long : length (calls_in (with_log p log)) ≡ length (calls_in p.seen) + length more.0 = ap (λ (calls : List Call). length calls) same ∙ length-append (calls_in p.seen) more.0 in
      omega (arith, long)

  since_log : (m q : PassView) (kind : Kind) (amount reply : ℕ) → m.number ≡ p.number → m.seen ≡ with_log p log → HasMadeNone p m → HasCalled m kind amount reply q → HasCalled p kind amount reply q
  since_log m q kind amount reply number seen none called =
      let at : ℕ → ℕ → Call = λ pass n. record { pass = pass; number = n; kind = kind; amount = amount } in
      let same : call_of m kind amount ≡ call_of p kind amount = (λ i. at (number i) (none.made i)) in
      let mine : own_calls p.number (calls_in m.seen) ++ call_of m kind amount ∷ [] ≡ own_calls p.number (calls_in p.seen) ++ call_of p kind amount ∷ [] = (λ i. none.calls i ++ same i ∷ []) in
      record {
        met = subst (λ (call : Call). HasReply q.seen.start (calls_in q.seen) call reply) same called.met;
        joined = ap (λ (n : ℕ). own_calls n (calls_in q.seen)) (sym number) ∙ called.joined ∙ ap (λ (n : ℕ). own_calls n (calls_in m.seen) ++ call_of m kind amount ∷ []) number ∙ mine;
        beyond = λ i stands.
            let behind = called.beyond i (ap (λ (call : Call). place call.pass call.number (calls_in q.seen)) same ∙ stands) in
            let long : length (calls_in m.seen) ≡ length (calls_in (with_log p log)) = ap (λ (core : CoreLog). length (calls_in core)) seen in
            omega (arith, grown, behind, long);
        bounded = subst (λ (core : CoreLog). reply ≤ core.start.opening + sum core.start.allowances) seen called.bounded;
        spent = ap (λ (n : ℕ). left_of q.seen n + amount) (sym number) ∙ called.spent ∙ ap (λ (n : ℕ). left_of m.seen n) number ∙ none.left;
        idle = subst (λ (n : ℕ). IsIdle q.seen n) number called.idle;
      }

-- a call that the pass makes after some steps by which it made none is the one that it makes from before them
pub called_since : (p m q : PassView) (kind : Kind) (amount reply : ℕ) → m.number ≡ p.number → m.seen.start ≡ p.seen.start → IsLegal m.seen → IsPrefix p.seen.log m.seen.log → HasMadeNone p m → HasCalled m kind amount reply q → HasCalled p kind amount reply q
called_since p m q kind amount reply number same legal first none called =
    let log : List Event = m.seen.log in
    let is : m.seen ≡ with_log p log = (λ i. let core : CoreLog = record { start = same i; log = log } in core) in
    since_log p log (subst IsLegal is legal) first m q kind amount reply number is none called
