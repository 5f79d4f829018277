-- A funnel in code after its steps, and what a call by itself leaves.
use Rattle.std.proofs.Common.{◌≡◌, ◌⊎◌, inl, inr, ℕ, ◌<◌, ◌≤◌, List, [], ◌∷◌, ◌++◌, Bool, true, false, refl, sym, ◌∙◌, ap, subst}
use Rattle.std.specs.Prelude.{if◌then◌else◌, ◌==◌, Result, Ok, Err, IfOk}
use Rattle.std.proofs.lemmas.Bool.{false≢true, eq-eqb, eqb-true}
use Rattle.fn_model.specs.declared.Call.{Call}
use Rattle.fn_model.specs.declared.Kind.{Kind}
use Rattle.fn_model.specs.declared.Kind.TheVariants.{Add, Sub, Read}
use Rattle.fn_model.specs.Calls.{own}
use Rattle.fn_rows.proofs.Put.{put_here}
use Rattle.fn_core.specs.declared.Event.{Event}
use Rattle.fn_core.specs.declared.Purpose.TheVariants as purpose
use Rattle.fn_core.specs.declared.Move.{Move}
use Rattle.fn_core.specs.declared.Move.TheVariants.{Load, Exchange, Direct}
use Rattle.fn_core.specs.declared.answer.Answer.{Answer}
use Rattle.fn_core.specs.declared.answer.NoMemory.{NoMemory}
use Rattle.fn_core.specs.declared.machine.Machine.{Machine}
use Rattle.fn_core.specs.State.{Start, Position, Resting, Trying, Climbing, Deciding, Caller, State, opened, stage, history_in, after_call, next_call, goes_to}
use Rattle.fn_core.specs.Machine.{IsChange, MaySpend, Allowed, run, moves, makes, loaded_by, exchanged_by, no_cap}
use Rattle.fn_core.specs.Batches.{has_come}
use Rattle.fn_core.specs.Positions.{IsClimbing, Fits}
use Rattle.fn_core.specs.Fields.{Stands, Mirrors, Takes}
use Rattle.fn_core.specs.Fields as fields
use Rattle.fn_core.specs.Laws.{HasReply, MeetsMain}
use Rattle.fn_core.specs.Calls.{CoreLog, state_in, calls_in, IsLegal, HasCall, with_move, with_moves, IsIdle, MayOwn, own_moves, exchange_moves, OwnCallJoins}
use Rattle.fn_core.proofs.Filling.{legal_push, run_push}
use Rattle.fn_core.proofs.Pushed.{stands_next}
use Rattle.fn_core.proofs.Laws.{holds, direct_replies_are_right}
use Rattle.fn_core.proofs.Whole.{climbing}
use Rattle.fn_core.proofs.Reached.{change_funnelled}
use Rattle.fn_core.proofs.Grows.{positions_fit}
use Rattle.fn_layout.specs.Words.{IsSlot}

-- one more allowed event leaves a legal log
pub legal_move : (core : CoreLog) → IsLegal core → (pass : ℕ) (step : Move) → Allowed core.start (state_in core) (record { pass = pass; step = step }) → IsLegal (with_move core pass step)
legal_move core legal pass step allowed = (legal.0, legal_push core.start core.log (record { pass = pass; step = step }) (opened core.start) legal.1 allowed)

-- a pass that climbs makes a call at a level of the shape
pub climbs_slot : (core : CoreLog) → IsLegal core → (pass : ℕ) → pass < core.start.shape.passes → (kind : Kind) (level : ℕ) → ((state_in core).callers pass).position ≡ Climbing kind level → IsSlot core.start.shape pass kind level
climbs_slot core legal pass inside kind level is =
    let up = climbing core.start legal.0 (state_in core) (holds core.start core.log legal.0 legal.1).0 pass kind level is in
    (inside, change_funnelled kind up.change, (up.low, up.high))

-- a call that is underway is an addition or a subtraction
pub call_kinds : (core : CoreLog) → IsLegal core → (pass : ℕ) → HasCall core pass → (has_come (stage core.start (state_in core) Add 1 pass) ≡ true) ⊎ (has_come (stage core.start (state_in core) Sub 1 pass) ≡ true)
call_kinds core legal pass (Add, came) = inl came
call_kinds core legal pass (Sub, came) = inr came
call_kinds core legal pass (Read, came) = absurd (by_position ((state_in core).callers pass).position (positions_fit core.start core.log legal.0 legal.1 pass))
  where
    climbs : (kind : Kind) (level : ℕ) → IsClimbing core.start.shape.levels (λ k l. stage core.start (state_in core) k l pass) kind level → ⊥
    climbs kind level up = false≢true (sym (ap has_come (up.other Read 1 (λ is. elim up.change [ inl add ↦ absurd (cc) | inr sub ↦ absurd (cc) ]))) ∙ came)

    by_position : (position : Position) → Fits core.start.shape.levels (λ k l. stage core.start (state_in core) k l pass) position → ⊥
    by_position Resting fit = false≢true (sym (ap has_come (fit Read 1)) ∙ came)
    by_position (Trying word) fit = false≢true (sym (ap has_come (fit Read 1)) ∙ came)
    by_position (Climbing kind level) fit = climbs kind level fit
    by_position (Deciding kind level word) fit = climbs kind level fit.0

-- a funnel's start is what it opened with
start_stays : (core : CoreLog) (pass : ℕ) (steps : List Move) → (with_moves core pass steps).start ≡ core.start
start_stays core pass [] = refl
start_stays core pass (step ∷ steps) = start_stays (with_move core pass step) pass steps

-- what a call by itself leaves
abbrev Joins : CoreLog → State → ℕ → Kind → ℕ → Type 0
Joins core next pass kind amount =
    let call = next_call (state_in core) pass kind amount in
    (HasReply core.start (history_in core.start next) call (state_in core).main × (own pass (history_in core.start next) ≡ own pass (calls_in core) ++ call ∷ [])) × ((next.callers pass).position ≡ Resting)

module _ (core : CoreLog) (legal : IsLegal core) (pass : ℕ) (inside : pass < core.start.shape.passes) (idle : IsIdle core pass) where
  abbrev s : State
  s = state_in core

  -- a call joins by its only step
  one_joins : (step : Move) (kind : Kind) (amount : ℕ) → moves core.start s pass step ≡ makes core.start s pass kind amount → MeetsMain core.start s (record { pass = pass; step = step }) → Joins core (moves core.start s pass step) pass kind amount
  one_joins step kind amount same meets =
      let call : Call = next_call s pass kind amount in
      let caller : (makes core.start s pass kind amount).callers pass ≡ after_call (s.callers pass) call = put_here s.callers pass (after_call (s.callers pass) call) pass refl in
      let last : ((moves core.start s pass step).callers pass).last ≡ call = ap (λ (x : State). (x.callers pass).last) same ∙ ap (λ (c : Caller). c.last) caller in (
        subst (λ (c : Call). HasReply core.start (history_in core.start (moves core.start s pass step)) c s.main × (own pass (history_in core.start (moves core.start s pass step)) ≡ own pass (calls_in core) ++ c ∷ [])) last meets,
        ap (λ (x : State). (x.callers pass).position) same ∙ ap (λ (c : Caller). c.position) caller ∙ idle,
      )

  -- the pass has loaded the main word
  abbrev pub middle : CoreLog
  middle = with_move core pass (Load purpose.Try)

  abbrev pub tried : State
  tried = goes_to s pass (Trying s.main)

  pub here : state_in middle ≡ tried
  here = run_push core.start core.log (record { pass = pass; step = Load purpose.Try }) (opened core.start) ∙ ap (loaded_by s pass) idle

  caller : tried.callers pass ≡ record (s.callers pass) { position = Trying s.main }
  caller = put_here s.callers pass (record (s.callers pass) { position = Trying s.main }) pass refl

  pub at : (tried.callers pass).position ≡ Trying s.main
  at = ap (λ (c : Caller). c.position) caller

  -- then it may exchange it
  pub exchange_allowed : (kind : Kind) (amount : ℕ) → IsChange kind → MaySpend s pass amount → Allowed core.start (state_in middle) (record { pass = pass; step = Exchange kind amount })
  exchange_allowed kind amount change spend =
      subst (λ (x : State). Allowed core.start x (record { pass = pass; step = Exchange kind amount })) (sym here)
      (inside, inl (s.main, at, change, subst (λ (c : Caller). (1 ≤ amount) × (amount ≤ c.left)) (sym caller) spend))

  -- a call joins that loads and exchanges
  two_join : (kind : Kind) (amount : ℕ) → IsChange kind → MaySpend s pass amount → Joins core (state_in (with_moves core pass (exchange_moves kind amount))) pass kind amount
  two_join kind amount change spend =
      let step : Move = Exchange kind amount in
      let loaded : IsLegal middle = legal_move core legal pass (Load purpose.Try) (inside, inl idle) in
      let meets : MeetsMain core.start tried (record { pass = pass; step = step }) =
      subst (λ (x : State). MeetsMain core.start x (record { pass = pass; step = step })) here
      ((direct_replies_are_right core.start middle.log loaded.0 loaded.1 (record { pass = pass; step = step }) (exchange_allowed kind amount change spend)).2
      kind amount s.main refl (ap (λ (x : State). (x.callers pass).position) here ∙ at) (ap (λ (x : State). x.main) here)) in
      let made : State = makes core.start tried pass kind amount in
      let next : State = goes_to made pass Resting in
      let same : moves core.start tried pass step ≡ next = ap (exchanged_by core.start tried pass kind amount) at ∙ ap (λ (t : Bool). if t then next else goes_to tried pass Resting) (eq-eqb s.main s.main refl) in
      let call : Call = next_call tried pass kind amount in
      let ended : next.callers pass ≡ record (made.callers pass) { position = Resting } = put_here made.callers pass (record (made.callers pass) { position = Resting }) pass refl in
      let spent : made.callers pass ≡ after_call (tried.callers pass) call = put_here tried.callers pass (after_call (tried.callers pass) call) pass refl in
      let number : call ≡ next_call s pass kind amount = ap (λ (c : Caller). record { pass = pass; number = c.made; kind = kind; amount = amount }) caller in
      let last : (next.callers pass).last ≡ next_call s pass kind amount = ap (λ (c : Caller). c.last) ended ∙ ap (λ (c : Caller). c.last) spent ∙ number in
      let joins : Joins core next pass kind amount = (
        subst (λ (c : Call). HasReply core.start (history_in core.start next) c s.main × (own pass (history_in core.start next) ≡ own pass (calls_in core) ++ c ∷ [])) last
            (subst (λ (x : State). HasReply core.start (history_in core.start x) (x.callers pass).last s.main × (own pass (history_in core.start x) ≡ own pass (calls_in core) ++ (x.callers pass).last ∷ [])) same meets),
        ap (λ (c : Caller). c.position) ended,
      ) in
      subst (λ (x : State). Joins core x pass kind amount)
      (sym (run_push core.start middle.log (record { pass = pass; step = step }) (opened core.start) ∙ ap (λ (x : State). moves core.start x pass step) here ∙ same)) joins

  pushed : (step : Move) (kind : Kind) (amount : ℕ) → Joins core (moves core.start s pass step) pass kind amount → Joins core (state_in (with_move core pass step)) pass kind amount
  pushed step kind amount joins = subst (λ (x : State). Joins core x pass kind amount) (sym (run_push core.start core.log (record { pass = pass; step = step }) (opened core.start))) joins

  add_joins : (amount : ℕ) → MaySpend s pass amount → (test : Bool) → (core.start.cap == no_cap) ≡ test → Joins core (state_in (with_moves core pass (if test then Direct amount ∷ [] else exchange_moves Add amount))) pass Add amount
  add_joins amount spend true high =
      let event : Event = record { pass = pass; step = Direct amount } in
      let allowed : Allowed core.start s event = (inside, (idle, eqb-true core.start.cap no_cap high, spend)) in
      pushed (Direct amount) Add amount (one_joins (Direct amount) Add amount refl ((direct_replies_are_right core.start core.log legal.0 legal.1 event allowed).1 amount refl))
  add_joins amount spend false low = two_join Add amount (inl refl) spend

  -- a call by itself joins the pass's own calls, and leaves the pass idle
  pub own_joins : (kind : Kind) (amount : ℕ) → MayOwn core pass kind amount → Joins core (state_in (with_moves core pass (own_moves core.start.cap kind amount))) pass kind amount
  own_joins Read amount none =
      let event : Event = record { pass = pass; step = Load purpose.Read } in
      let meets = (direct_replies_are_right core.start core.log legal.0 legal.1 event (inside, idle)).0 refl in
      subst (λ (a : ℕ). Joins core (state_in (with_move core pass (Load purpose.Read))) pass Read a) (sym none) (pushed (Load purpose.Read) Read 0 (one_joins (Load purpose.Read) Read 0 refl meets))
  own_joins Add amount spend = add_joins amount spend (core.start.cap == no_cap) refl
  own_joins Sub amount spend = two_join Sub amount (inr refl) spend

  pub joins_so : (new : CoreLog) (kind : Kind) (amount : ℕ) → MayOwn core pass kind amount → (r : Result ℕ NoMemory) → IfOk r (λ _. new ≡ with_moves core pass (own_moves core.start.cap kind amount)) → IfOk r (λ reply. reply ≡ s.main) → IfOk r (λ reply. OwnCallJoins core new pass kind amount reply)
  joins_so new kind amount may (Ok reply) taken met = subst (λ (x : CoreLog). OwnCallJoins core x pass kind amount reply) (sym taken)
      (subst (OwnCallJoins core (with_moves core pass (own_moves core.start.cap kind amount)) pass kind amount) (sym met)
      (subst (λ (start : Start). HasReply start (history_in start (state_in (with_moves core pass (own_moves core.start.cap kind amount)))) (next_call s pass kind amount) s.main × (own pass (history_in start (state_in (with_moves core pass (own_moves core.start.cap kind amount)))) ≡ own pass (calls_in core) ++ next_call s pass kind amount ∷ []))
      (sym (start_stays core pass (own_moves core.start.cap kind amount))) (own_joins kind amount may).0))
  joins_so new kind amount may (Err e) taken met = tt

  pub idle_so : (new : CoreLog) (kind : Kind) (amount : ℕ) → MayOwn core pass kind amount → (r : Result ℕ NoMemory) → IfOk r (λ _. new ≡ with_moves core pass (own_moves core.start.cap kind amount)) → IfOk r (λ _. IsIdle new pass)
  idle_so new kind amount may (Ok reply) taken = subst (λ (x : CoreLog). IsIdle x pass) (sym taken) (own_joins kind amount may).1
  idle_so new kind amount may (Err e) taken = tt

-- the machine of a funnel after a load of the main word by an idle pass: it stands for the longer log, and the pass may exchange the word
module _ (m next : Machine) (log : List Event) (stands : Stands m log) (pass : ℕ) (answer : Answer) (same : next.start ≡ m.start) (takes : Takes m next pass (Load purpose.Try) answer) where
  abbrev before : CoreLog
  before = record { start = m.start; log = log }

  pub load_stands : pass < m.start.shape.passes → IsIdle before pass → Stands next (log ++ record { pass = pass; step = Load purpose.Try } ∷ [])
  load_stands inside idle = stands_next m next log (record { pass = pass; step = Load purpose.Try }) answer stands (inside, inl idle) same takes

  pub exchange_may : pass < m.start.shape.passes → IsIdle before pass → (kind : Kind) (amount : ℕ) → IsChange kind → MaySpend (state_in before) pass amount → fields.May next (log ++ record { pass = pass; step = Load purpose.Try } ∷ []) pass (Exchange kind amount)
  exchange_may inside idle kind amount change spend =
      subst (λ (start : Start). Allowed start (run start (log ++ record { pass = pass; step = Load purpose.Try } ∷ []) (opened start)) (record { pass = pass; step = Exchange kind amount })) (sym same)
      (exchange_allowed before (stands.start_ok, stands.legal) pass inside idle kind amount change spend)
