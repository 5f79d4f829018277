-- What each order leaves of the history, and what its reply says of it.
use Rattle.std.proofs.Common.{◌≡◌, inl, inr, ℕ, ◌+◌, ◌<◌, ◌≤◌, List, [], ◌∷◌, ◌++◌, length, refl, sym, ◌∙◌, ap, subst, arith}
use Rattle.std.proofs.lemmas.List.{append-nil}
use Rattle.fn_model.specs.declared.Call.{Call}
use Rattle.fn_model.specs.declared.Kind.{Kind}
use Rattle.fn_model.specs.Calls.{own}
use Rattle.fn_core.specs.declared.Event.{Event}
use Rattle.fn_core.specs.declared.Move.{Move}
use Rattle.fn_core.specs.declared.answer.CoreBegun.{CoreBegun}
use Rattle.fn_core.specs.declared.answer.CoreBegun.TheVariants.{Waiting, NoRow}
use Rattle.fn_core.specs.declared.answer.CoreStep.{CoreStep}
use Rattle.fn_core.specs.declared.answer.CoreStep.TheVariants.{Going, Ready, NotYet}
use Rattle.fn_core.specs.State.{Caller, next_call}
use Rattle.fn_core.specs.Machine.{IsChange, MaySpend}
use Rattle.fn_core.specs.Order.{next_move}
use Rattle.fn_core.specs.Begin.{begin_moves, begun, events_of, spent}
use Rattle.fn_core.specs.Calls.{CoreLog, Follows, HasCall, IsIdle, IsLegal, MayOwn, calls_in, left_of, own_moves, state_in, step_answer, with_move, with_moves}
use Rattle.fn_core.specs.Orders.{BeginningLeaves, OwnCallLeaves, StepLeaves}
use Rattle.fn_core.proofs.Public.{beginnings_leave, own_calls_leave, resting_passes_have_no_call, steps_leave, steps_follow}
use Rattle.script_run.specs.declared.lines.LineAnswer.{LineAnswer}
use Rattle.script_run.specs.declared.lines.LineAnswer.TheVariants as answer
use Rattle.script_run.specs.Play.{begun_answer, told_answer}
use Rattle.script_run.specs.Doing.{Leaves}
use Rattle.script_run.specs.Answered.{IsMet}
use Rattle.script_run.proofs.Leaving.{leaves-by, leaves-none, underway-after, with_moves-log}
use Rattle.script_run.proofs.Tracks.{Tracks, after, caller_in, grown, next-number, own-more, rests-has-all, tracks-begun, tracks-here, tracks-kept}

-- what an order to a pass leaves, after which lines have made these calls
pub record Taken (core new : CoreLog) (pass amount : ℕ) (calls : List Call) (told : LineAnswer) : Type 0 where
  pub legal : IsLegal new
  pub more : List Event
  pub grown_is : new ≡ grown core more
  pub leaves : Leaves core new pass amount
  pub tracks : Tracks new calls pass
  pub met : IsMet new.start.cap new.start.opening (calls_in new) (own pass calls) told

-- the calls that a beginning has made, by what it is answered
abbrev pub made_then : Call → CoreBegun → List Call
made_then call Waiting = call ∷ []
made_then call (NoRow blocked) = []

-- a step of a call
module _ (core : CoreLog) (legal : IsLegal core) (pass : ℕ) (inside : pass < core.start.shape.passes) (calls : List Call) (t : Tracks core calls pass) (u : HasCall core pass) where
  abbrev step : Move
  step = next_move core.start (state_in core) pass

  abbrev next : CoreLog
  next = with_move core pass step

  abbrev event : Event
  event = record { pass = pass; step = step }

  left_by_step : StepLeaves core next pass
  left_by_step = steps_leave core legal pass inside u

  leaves_next : (told : CoreStep) → Follows core next pass told → Leaves core next pass 0
  leaves_next told f =
      let same : left_of next pass ≡ left_of core pass = left_by_step.left in
      leaves-by core next pass 0 (step ∷ []) refl (omega (arith, same)) (underway-after core next pass told f) left_by_step.others

  still : HasCall next pass → Tracks next calls pass
  still call = tracks-kept core (event ∷ []) calls calls pass t left_by_step.calls (λ idle. absurd (resting_passes_have_no_call core legal pass inside idle u)) (λ before. call) refl

  ended : (n : ℕ) → Follows core next pass (Ready n) → Taken core next pass 0 calls (answer.Reply n)
  ended n f = elim t.now [
    | inl all ↦ absurd (resting_passes_have_no_call core legal pass inside all.0 u)
    | inr one ↦
        let same = left_by_step.calls in
        let was : CoreLog = after core t.earlier in
        let joined = f.2 t.earlier t.later t.split t.quiet (same.0 ∙ one.2) in
        let mine : own pass calls ≡ own pass (calls_in was) ++ (caller_in next pass).last ∷ [] = one.3 ∙ ap (λ (c : Call). own pass (calls_in was) ++ c ∷ []) (sym same.1) in
        record {
          legal = left_by_step.legal;
          more = event ∷ [];
          grown_is = refl;
          leaves = leaves_next (Ready n) f;
          tracks = tracks-here next calls pass (resting_passes_have_no_call next left_by_step.legal pass inside f.0) f.0 (joined ∙ sym mine);
          met = (own pass (calls_in was), (caller_in next pass).last, mine, f.1);
        }
  ]

  told_taken : (told : CoreStep) → Follows core next pass told → Taken core next pass 0 calls (told_answer told)
  told_taken Going f = record { legal = left_by_step.legal; more = event ∷ []; grown_is = refl; leaves = leaves_next Going f; tracks = still f.0; met = tt }
  told_taken (NotYet why) f = record { legal = left_by_step.legal; more = event ∷ []; grown_is = refl; leaves = leaves_next (NotYet why) f; tracks = still f; met = tt }
  told_taken (Ready n) f = ended n f

  pub step-taken : Taken core next pass 0 calls (told_answer (step_answer core.start (state_in core) pass))
  step-taken = told_taken (step_answer core.start (state_in core) pass) (steps_follow core pass legal inside u)

-- a meeting
pub meet-taken : (core : CoreLog) → IsLegal core → (pass : ℕ) (calls : List Call) → Tracks core calls pass → ((IsIdle core pass → ⊥) → HasCall core pass) → Taken core core pass 0 calls answer.Met
meet-taken core legal pass calls t underway = record {
  legal = legal;
  more = [];
  grown_is = (let at : List Event → CoreLog = after core in ap at (sym (append-nil core.log)));
  leaves = leaves-none core pass underway;
  tracks = t;
  met = tt;
}

-- a call that goes to the main word by itself
module _ (core : CoreLog) (legal : IsLegal core) (pass : ℕ) (inside : pass < core.start.shape.passes) (idle : IsIdle core pass) where
  module _ (calls : List Call) (t : Tracks core calls pass) (kind : Kind) (amount : ℕ) (may : MayOwn core pass kind amount) where
    abbrev steps : List Move
    steps = own_moves core.start.cap kind amount

    abbrev joined : CoreLog
    joined = grown core (events_of pass steps)

    abbrev call : Call
    call = record { pass = pass; number = length (own pass calls); kind = kind; amount = amount }

    call_is : next_call (state_in core) pass kind amount ≡ call
    call_is = ap (λ (n : ℕ). record { pass = pass; number = n; kind = kind; amount = amount }) (next-number core calls pass legal t)

    there : joined ≡ with_moves core pass steps
    there = sym (with_moves-log core pass steps)

    left_by_call : OwnCallLeaves core joined pass kind amount
    left_by_call = subst (λ (x : CoreLog). OwnCallLeaves core x pass kind amount) (sym there) (own_calls_leave core legal pass inside idle kind amount may)

    mine : own pass (calls ++ call ∷ []) ≡ own pass calls ++ call ∷ []
    mine = own-more calls call pass refl

    leaves_joined : Leaves core joined pass amount
    leaves_joined =
        let less : left_of joined pass + amount ≡ left_of core pass = left_by_call.left in
        leaves-by core joined pass amount steps there (omega (arith, less)) (λ busy. absurd (busy left_by_call.idle)) left_by_call.others

    taken : Taken core joined pass amount (calls ++ call ∷ []) (answer.Reply (state_in core).main)
    taken = record {
      legal = left_by_call.legal;
      more = events_of pass steps;
      grown_is = refl;
      leaves = leaves_joined;
      tracks = tracks-here joined (calls ++ call ∷ []) pass (resting_passes_have_no_call joined left_by_call.legal pass inside left_by_call.idle) left_by_call.idle
          (left_by_call.joins.1 ∙ ap (λ (x : List Call). x ++ next_call (state_in core) pass kind amount ∷ []) (rests-has-all core calls pass legal t idle) ∙ ap (λ (c : Call). own pass calls ++ c ∷ []) call_is ∙ sym mine);
      met = (own pass calls, next_call (state_in core) pass kind amount, mine ∙ ap (λ (c : Call). own pass calls ++ c ∷ []) (sym call_is), left_by_call.joins.0);
    }

    pub own-taken : Taken core (with_moves core pass steps) pass amount (calls ++ call ∷ []) (answer.Reply (state_in core).main)
    own-taken = subst (λ (x : CoreLog). Taken core x pass amount (calls ++ call ∷ []) (answer.Reply (state_in core).main)) there taken

  -- a beginning
  module _ (calls : List Call) (t : Tracks core calls pass) (kind : Kind) (change : IsChange kind) (amount : ℕ) (spend : MaySpend (state_in core) pass amount) where
    abbrev firsts : List Move
    firsts = begin_moves core.start (state_in core) pass kind amount

    abbrev told : CoreBegun
    told = begun core.start (state_in core) pass kind

    abbrev begins : CoreLog
    begins = grown core (events_of pass firsts)

    abbrev asks : Call
    asks = record { pass = pass; number = length (own pass calls); kind = kind; amount = amount }

    asks_is : next_call (state_in core) pass kind amount ≡ asks
    asks_is = ap (λ (n : ℕ). record { pass = pass; number = n; kind = kind; amount = amount }) (next-number core calls pass legal t)

    taken_is : begins ≡ with_moves core pass firsts
    taken_is = sym (with_moves-log core pass firsts)

    left_by_beginning : BeginningLeaves core begins pass kind amount told
    left_by_beginning = subst (λ (x : CoreLog). BeginningLeaves core x pass kind amount told) (sym taken_is) (beginnings_leave core legal pass inside idle kind change amount spend)

    leaves_begins : (amounts : ℕ) → left_of begins pass + amounts ≡ left_of core pass → amounts ≤ amount → ((IsIdle begins pass → ⊥) → HasCall begins pass) → Leaves core begins pass amount
    leaves_begins amounts less most underway =
        leaves-by core begins pass amount firsts taken_is (omega (arith, less, most)) underway left_by_beginning.others

    spent_by : (x : CoreBegun) → told ≡ x → left_of begins pass + spent x amount ≡ left_of core pass
    spent_by x is = subst (λ (y : CoreBegun). left_of begins pass + spent y amount ≡ left_of core pass) is left_by_beginning.left

    by_told : (x : CoreBegun) → told ≡ x → Taken core begins pass amount (calls ++ made_then asks x) (begun_answer x)
    by_told Waiting is =
        let has = left_by_beginning.waiting is in
        record {
          legal = left_by_beginning.legal;
          more = events_of pass firsts;
          grown_is = refl;
          leaves = leaves_begins amount (spent_by Waiting is) (omega arith) (λ busy. has.waits.call);
          tracks = tracks-begun core (events_of pass firsts) (calls ++ asks ∷ []) pass inside (resting_passes_have_no_call core legal pass inside idle) has.waits.call has.made
              (own-more calls asks pass refl ∙ ap (λ (x : List Call). x ++ asks ∷ []) (sym (rests-has-all core calls pass legal t idle))
              ∙ ap (λ (c : Call). own pass (calls_in core) ++ c ∷ []) (sym (has.last ∙ asks_is)));
          met = tt;
        }
    by_told (NoRow blocked) is =
        let same = left_by_beginning.refused blocked is in
        let rests : IsIdle begins pass = ap (λ (c : Caller). c.position) same ∙ idle in
        record {
          legal = left_by_beginning.legal;
          more = events_of pass firsts;
          grown_is = refl;
          leaves = leaves_begins 0 (spent_by (NoRow blocked) is) (omega arith) (λ busy. absurd (busy rests));
          tracks = tracks-kept core (events_of pass firsts) calls (calls ++ []) pass t (ap (λ (c : Caller). c.made) same, ap (λ (c : Caller). c.last) same) (λ before. rests)
              (λ call. absurd (resting_passes_have_no_call core legal pass inside idle call)) (ap (own pass) (append-nil calls));
          met = tt;
        }

    pub begin-taken : Taken core (with_moves core pass firsts) pass amount (calls ++ made_then asks told) (begun_answer told)
    begin-taken = subst (λ (x : CoreLog). Taken core x pass amount (calls ++ made_then asks told) (begun_answer told)) taken_is (by_told told refl)
