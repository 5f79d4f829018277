-- A Glance of a pass that makes no call keeps the rule, whatever its seat has joined, and leaves the state as it was.
use Rattle.std.proofs.Common.{◌≡◌, ℕ, zero, suc, ◌+◌, ◌<◌, List, [], ◌∷◌, ◌++◌, refl, sym, ap, ◌∙◌, subst, arith}
use Rattle.atomic_table.specs.Table.{Me, Allows}
use Rattle.running.specs.declared.Part.{Part}
use Rattle.running.specs.Machine as machine
use Rattle.running.specs.Running.{times, numbers_of, Each, Fits, Running, TookAt, Ready}
use Rattle.running.proofs.Logs.{own_same}
use Rattle.running.proofs.Keeps.{takes}
use Rattle.fn_core.specs.declared.Start.{Start}
use Rattle.fn_core.specs.declared.Event.{Event}
use Rattle.fn_core.specs.declared.Move.TheVariants.{Glance}
use Rattle.fn_core.specs.declared.Position.TheVariants.{Resting}
use Rattle.fn_core.specs.State.{State, opened}
use Rattle.fn_core.specs.Machine.{IsStart, Legal, run}
use Rattle.fn_core.specs.Words.{Own}
use Rattle.fn_core.specs.Calls.{IsIdle}
use Rattle.fn_table.specs.Funnel.{MayTake, funnel}
use Rattle.fn_table.specs.Seen.{event, glances}
use Rattle.fn_table.specs.Seats.{Known, taken_by}
use Rattle.fn_table.proofs.FunnelLaws.{laws}
use Rattle.fn_table.proofs.States.{own_is}
use Rattle.fn_table.proofs.Owes.{event_of}

-- the seat keeps this pass first, which makes no call in one of the seat's logs
pub record Rests (n : ℕ) (v : Known) (q : Part Event) : Type 0 where
  pub first : (ns : List ℕ) × (numbers_of v.parts ≡ n ∷ ns)
  pub mine : 0 < times n (numbers_of v.parts)
  pub here : (log : List Event) → Each (Fits funnel log) v.parts → Fits funnel log q
  pub kept : 0 < times n q.numbers
  pub opens : IsStart v.start
  pub inside : n < v.start.shape.passes
  pub idle : IsIdle (record { start = v.start; log = q.log }) n

may_glance : (start : Start) (n : ℕ) (log : List Event) → IsStart start → n < start.shape.passes → IsIdle (record { start = start; log = log }) n → MayTake start (machine.own_of funnel start log n) (event n Glance)
may_glance start n log ok inside idle =
    subst (λ (o : Own). MayTake start o (event n Glance)) (sym (own_is start log n)) (ok, run start log (opened start), refl, (inside, idle))

glance_ready : (n : ℕ) (v : Known) (q : Part Event) → Rests n v q → Ready funnel v (event_of v Glance) 0 (λ k. k)
glance_ready n v q r =
    let ready : Ready funnel v (event n Glance) 0 (λ k. k) = record {
      mine = r.mine;
      place = refl;
      allowed = λ log legal fit.
          (let f = r.here log fit in
          subst (λ (o : Own). MayTake v.start o (event n Glance)) (sym (own_same funnel v.start laws n q.log log legal f.begins (f.own n r.kept))) (may_glance v.start n q.log r.opens r.inside r.idle));
      change = λ log legal fit. refl;
    } in
    subst (λ ns. Ready funnel v (taken_by ns Glance) 0 (λ k. k)) (sym r.first.1) ready

-- what its load owes
pub glance_keeps : (key : Start) (slots id : ℕ) (me : Me (Unit {0}) Known) (n : ℕ) (q : Part Event) → Rests n me.0 q
    → Allows (Running funnel key) slots id me 0 (λ k. k) (λ k after. TookAt funnel (event_of me.0 Glance) me.0 k after.0 × (after.1 ≡ me.1))
glance_keeps key slots id me n q r =
    takes funnel laws key slots id me (event_of me.0 Glance) 0 (λ k. k) (λ k after. TookAt funnel (event_of me.0 Glance) me.0 k after.0 × (after.1 ≡ me.1)) (glance_ready n me.0 q r) (λ k w t. (t, refl))

-- Glances leave the state as it was at first
pub glances_run : (start : Start) (s : State) (k : ℕ) → run start (glances k) s ≡ s
glances_run start s zero = refl
glances_run start s (suc k) = glances_run start s k

-- .. and a pass idle
pub glances_idle : (start : Start) (n k : ℕ) → IsIdle (record { start = start; log = glances k }) n
glances_idle start n k = ap (λ (s : State). (s.callers n).position) (glances_run start (opened start) k)

legal_from : (start : Start) (s : State) (k : ℕ) → 0 < start.shape.passes → (s.callers 0).position ≡ Resting → Legal start (glances k) s
legal_from start s zero inside idle = tt
legal_from start s (suc k) inside idle = ((inside, idle), legal_from start s k inside idle)

pub glances_legal : (start : Start) (k : ℕ) → 0 < start.shape.passes → Legal start (glances k) (opened start)
glances_legal start k inside = legal_from start (opened start) k inside refl

pub glance_more : (k : ℕ) → glances k ++ event 0 Glance ∷ [] ≡ glances (k + 1)
glance_more zero = refl
glance_more (suc k) = let e : suc (k + 1) ≡ suc k + 1 = omega arith in ap (λ es. event 0 Glance ∷ es) (glance_more k) ∙ ap glances e
