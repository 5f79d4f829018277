-- Several events, taken one after the other.
use Rattle.std.proofs.Common.{◌≡◌, ℕ, zero, suc, ◌+◌, ◌<◌, List, [], ◌∷◌, ◌++◌, length, get_or, take, refl, sym, ◌∙◌, ap, subst, arith, append_assoc}
use Rattle.std.proofs.lemmas.List.{take_more, append-nil}
use Rattle.fn_core.specs.declared.Event.{Event}
use Rattle.fn_core.specs.declared.Move.{Move}
use Rattle.fn_core.specs.declared.answer.Answer.{Answer}
use Rattle.fn_core.specs.declared.machine.Machine.{Machine}
use Rattle.fn_core.specs.State.{Start, State, opened}
use Rattle.fn_core.specs.Machine.{IsStart, Allowed, Legal, run, effect}
use Rattle.fn_core.specs.Fields.{Stands, Mirrors, Takes}
use Rattle.fn_core.specs.Fields as fields
use Rattle.fn_core.specs.Begin.{events_of}
use Rattle.fn_core.specs.Calls.{CoreLog, with_move, with_moves}
use Rattle.fn_core.proofs.Filling.{legal_push, run_push}

pub run_append : (start : Start) (log more : List Event) (s : State) → run start (log ++ more) s ≡ run start more (run start log s)
run_append start [] more s = refl
run_append start (event ∷ log) more s = run_append start log more (effect start s event)

pub legal_append : (start : Start) (log more : List Event) (s : State) → Legal start log s → Legal start more (run start log s) → Legal start (log ++ more) s
legal_append start [] more s legal rest = rest
legal_append start (event ∷ log) more s legal rest = (legal.0, legal_append start log more (effect start s event) legal.1 rest)

-- each event of a legal list may happen after those before it
pub legal_at : (start : Start) (events : List Event) (s : State) (i : ℕ) (d : Event) → Legal start events s → i < length events → Allowed start (run start (take i events) s) (get_or events i d)
legal_at start [] s i d legal within = absurd (omega arith)
legal_at start (first ∷ events) s zero d legal within = legal.0
legal_at start (first ∷ events) s (suc i) d legal within = legal_at start events (effect start s first) i d legal.1 (omega arith)

-- a machine that has taken an event more
pub stands_next : (old new : Machine) (log : List Event) (event : Event) (answer : Answer) → Stands old log → fields.May old log event.pass event.step → new.start ≡ old.start → Takes old new event.pass event.step answer → Stands new (log ++ event ∷ [])
stands_next old new log event answer stands may same takes =
    let taken = takes log stands may in
    record {
      start_ok = subst IsStart (sym same) stands.start_ok;
      legal = subst (λ (start : Start). Legal start (log ++ event ∷ []) (opened start)) (sym same) (legal_push old.start log event (opened old.start) stands.legal may);
      fields = subst (λ (start : Start). Mirrors new (run start (log ++ event ∷ []) (opened start))) (sym same) (subst (Mirrors new) (sym (run_push old.start log event (opened old.start))) taken.0);
    }

-- a machine began with a log, and has taken the first of some legal events
module _ (first now : Machine) (log events : List Event) (i : ℕ) (d : Event) (same : now.start ≡ first.start) (stands : Stands now (log ++ take i events)) (legal : Legal first.start events (run first.start log (opened first.start))) (within : i < length events) where
  abbrev event : Event
  event = get_or events i d

  -- it may take the next
  pub may_next : fields.May now (log ++ take i events) event.pass event.step
  may_next =
      subst (λ (start : Start). Allowed start (run start (log ++ take i events) (opened start)) event) (sym same)
      (subst (λ (s : State). Allowed first.start s event) (sym (run_append first.start log (take i events) (opened first.start))) (legal_at first.start events (run first.start log (opened first.start)) i d legal within))

  -- .. and then has taken one more
  pub stands_more : (new : Machine) (answer : Answer) → new.start ≡ now.start → Takes now new event.pass event.step answer → Stands new (log ++ take (i + 1) events)
  stands_more new answer kept takes =
      subst (Stands new) (append_assoc log (take i events) (event ∷ []) ∙ ap (λ (xs : List Event). log ++ xs) (sym (take_more events i d within)))
      (stands_next now new (log ++ take i events) event answer stands may_next kept takes)

-- several steps of a pass stand behind the log
pub with_moves_log : (core : CoreLog) (pass : ℕ) (steps : List Move) → with_moves core pass steps ≡ record { start = core.start; log = core.log ++ events_of pass steps }
with_moves_log core pass [] = let logged : List Event → CoreLog = λ xs. record { start = core.start; log = xs } in ap logged (sym (append-nil core.log))
with_moves_log core pass (step ∷ steps) =
    let logged : List Event → CoreLog = λ xs. record { start = core.start; log = xs } in
    with_moves_log (with_move core pass step) pass steps ∙ ap logged (append_assoc core.log (record { pass = pass; step = step } ∷ []) (events_of pass steps))
