-- The laws of logs that go on, and of the orders to a pass.
use Rattle.std.proofs.Common.{◌≡◌, inl, inr, ℕ, ◌<◌, Bool, true, false, List, [], ◌∷◌, Ok, refl, sym, ◌∙◌, ap, subst}
use mathlib.Core.List.{IsPrefix}
use Rattle.std.specs.Prelude.{if◌then◌else◌, ◌==◌}
use Rattle.std.proofs.lemmas.Bool.{eqb-true}
use Rattle.fn_model.specs.declared.Call.{Call}
use Rattle.fn_model.specs.declared.Kind.{Kind}
use Rattle.fn_model.specs.declared.Kind.TheVariants.{Add, Sub, Read}
use Rattle.fn_model.proofs.Spent.{All-history}
use Rattle.fn_core.specs.declared.Purpose.TheVariants as purpose
use Rattle.fn_core.specs.declared.Event.{Event}
use Rattle.fn_core.specs.declared.Move.{Move}
use Rattle.fn_core.specs.declared.Move.TheVariants.{Load, Exchange, Direct}
use Rattle.fn_core.specs.declared.answer.CoreBegun.{CoreBegun}
use Rattle.fn_core.specs.State.{Start, State, opened, history_in}
use Rattle.fn_core.specs.Machine.{IsChange, MaySpend, Legal, run, no_cap}
use Rattle.fn_core.specs.Order.{next_move}
use Rattle.fn_core.specs.Begin.{begin_moves, begun, events_of}
use Rattle.fn_core.specs.Calls.{CoreLog, state_in, calls_in, IsLegal, IsIdle, MayOwn, exchange_moves, own_moves, with_move, with_moves}
use Rattle.fn_core.specs.Orders.{LogsArePartedAndJoined, RunsGoOn, HistoriesGoOn, CallsAreOfPasses, RestingPassesHaveNoCall, StepsLeave, OwnCallsLeave, BeginningsLeave, FaultlessStartsAreStarts}
use Rattle.fn_core.proofs.Begins.{rests_out}
use Rattle.fn_core.proofs.Called.{legal_move, exchange_allowed, joins_so, idle_so}
use Rattle.fn_core.proofs.Counted.{opened_counted, log_counted}
use Rattle.fn_core.proofs.Filling.{calls_always_go_on}
use Rattle.fn_core.proofs.Follows.{legal_parts, run_parts}
use Rattle.fn_core.proofs.Grows.{histories_grow}
use Rattle.fn_core.proofs.Left.{step_keeps, step_left, step_others, own_leaves, moves_leave_others}
use Rattle.fn_core.proofs.Log.{opened_whole}
use Rattle.fn_core.proofs.Opened.{start_is}
use Rattle.fn_core.proofs.Owned.{opened_owned, log_owned, out_idle}
use Rattle.fn_core.proofs.Pushed.{legal_append, with_moves_log}
use Rattle.fn_core.proofs.Told.{after_waits, after_made, after_refused, after_spent}
use Rattle.fn_core.proofs.Waits.{begin_happens}

pub logs_are_parted_and_joined : LogsArePartedAndJoined
logs_are_parted_and_joined start earlier later s = (legal_parts start earlier later s, legal_append start earlier later s)

pub runs_go_on : RunsGoOn
runs_go_on = run_parts

history_begins : (start : Start) (first log : List Event) → (let core : CoreLog = record { start = start; log = log } in IsLegal core) → IsPrefix first log
    → (let was : CoreLog = record { start = start; log = first } in let now : CoreLog = record { start = start; log = log } in IsPrefix (calls_in was) (calls_in now))
history_begins start first log legal begins =
    let parts = legal_parts start first begins.0 (opened start) (subst (λ (l : List Event). Legal start l (opened start)) (sym begins.1) legal.1) in
    let further = histories_grow start first legal.0 parts.0 begins.0 parts.1 in
    (further.0, sym (ap (λ (l : List Event). history_in start (run start l (opened start))) (sym begins.1) ∙ ap (λ (s : State). history_in start s) (run_parts start first begins.0 (opened start)) ∙ further.1))

pub histories_go_on : HistoriesGoOn
histories_go_on old new legal same begins =
    subst (λ (start : Start). let was : CoreLog = record { start = start; log = old.log } in IsPrefix (calls_in was) (calls_in new)) same
    (history_begins new.start old.log new.log legal begins)

pub calls_are_of_passes : CallsAreOfPasses
calls_are_of_passes start log ok legal =
    let counted = log_counted start ok log (opened start) (opened_whole start ok) (opened_counted start) legal in
    let each = counted.1.each in
    let s : State = run start log (opened start) in
    All-history (λ (call : Call). call.pass < start.shape.passes) s.arrivals start.shape.levels s.steps each.arrivals each.main

pub resting_passes_have_no_call : RestingPassesHaveNoCall
resting_passes_have_no_call core legal pass inside idle underway =
    let start : Start = core.start in
    let all = log_owned start legal.0 core.log (opened start) (opened_whole start legal.0) (opened_counted start) (opened_owned start) legal.1 in
    out_idle start legal.0 (state_in core) all.0 all.1 all.2 pass inside (rests_out start legal.0 (state_in core) all.0 pass inside idle) underway

pub steps_leave : StepsLeave
steps_leave core legal pass inside underway =
    let kept = step_keeps core legal pass inside underway in
    record {
      legal = legal_move core legal pass (next_move core.start (state_in core) pass) (calls_always_go_on core.start core.log legal.0 legal.1 pass inside underway);
      calls = (ap (λ (c : ℕ × ℕ × Call). c.1) kept, ap (λ (c : ℕ × ℕ × Call). c.2) kept);
      left = step_left core legal pass inside underway;
      others = step_others core legal pass inside underway;
    }

-- a call by itself is allowed
module _ (core : CoreLog) (legal : IsLegal core) (pass : ℕ) (inside : pass < core.start.shape.passes) (idle : IsIdle core pass) where
  two_legal : (kind : Kind) (amount : ℕ) → IsChange kind → MaySpend (state_in core) pass amount → IsLegal (with_moves core pass (exchange_moves kind amount))
  two_legal kind amount change spend =
      legal_move (with_move core pass (Load purpose.Try)) (legal_move core legal pass (Load purpose.Try) (inside, inl idle)) pass (Exchange kind amount)
      (exchange_allowed core legal pass inside idle kind amount change spend)

  add_legal : (amount : ℕ) → MaySpend (state_in core) pass amount → (test : Bool) → (core.start.cap == no_cap) ≡ test → IsLegal (with_moves core pass (if test then Direct amount ∷ [] else exchange_moves Add amount))
  add_legal amount spend true high = legal_move core legal pass (Direct amount) (inside, (idle, eqb-true core.start.cap no_cap high, spend))
  add_legal amount spend false low = two_legal Add amount (inl refl) spend

  own_legal : (kind : Kind) (amount : ℕ) → MayOwn core pass kind amount → IsLegal (with_moves core pass (own_moves core.start.cap kind amount))
  own_legal Read amount none = legal_move core legal pass (Load purpose.Read) (inside, idle)
  own_legal Add amount spend = add_legal amount spend (core.start.cap == no_cap) refl
  own_legal Sub amount spend = two_legal Sub amount (inr refl) spend

pub own_calls_leave : OwnCallsLeave
own_calls_leave core legal pass inside idle kind amount may =
    let new : CoreLog = with_moves core pass (own_moves core.start.cap kind amount) in
    let met : ℕ = (state_in core).main in
    let leaves = own_leaves core legal pass inside idle kind amount may in
    record {
      legal = own_legal core legal pass inside idle kind amount may;
      joins = joins_so core legal pass inside idle new kind amount may (Ok met) refl refl;
      idle = idle_so core legal pass inside idle new kind amount may (Ok met) refl;
      left = leaves.0;
      others = leaves.1;
    }

pub beginnings_leave : BeginningsLeave
beginnings_leave core legal pass inside idle kind change amount spend =
    let steps : List Move = begin_moves core.start (state_in core) pass kind amount in
    let new : CoreLog = with_moves core pass steps in
    let told : CoreBegun = begun core.start (state_in core) pass kind in
    let happens = begin_happens core.start (state_in core) pass inside kind change amount idle spend in
    record {
      legal = subst IsLegal (sym (with_moves_log core pass steps)) (legal.0, legal_append core.start core.log (events_of pass steps) (opened core.start) legal.1 happens);
      waiting = λ is.
          (let made = after_made core new pass inside kind change amount idle refl told refl is in
          record { waits = after_waits core new pass inside kind change amount idle refl told refl is; last = made.0; made = made.1 });
      refused = λ at is. after_refused core new pass inside kind change amount idle refl told refl at is;
      left = after_spent core new pass inside kind change amount idle refl told refl spend;
      others = moves_leave_others core legal pass inside steps happens;
    }

pub faultless_starts_are_starts : FaultlessStartsAreStarts
faultless_starts_are_starts = start_is
