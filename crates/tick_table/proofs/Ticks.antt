-- The ticks are a machine of the running rule, and what a claim owes and tells.
use Rattle.std.proofs.Common.{◌≡◌, ℕ, ◌<◌, max, [], ◌∷◌, refl, sym, ap, subst, arith, eq-eqb}
use Rattle.atomic_table.specs.Table.{Allows}
use Rattle.atomic_table.specs.Seated.{TableId}
use Rattle.running.specs.Machine.{Laws}
use Rattle.running.specs.Running.{times, numbers_of, log_of, view, knows, Running, TookAt, Ready}
use Rattle.running.proofs.Logs.{state-append}
use Rattle.running.proofs.Keeps.{takes, ready_one}
use Rattle.running.proofs.Between.{points_hold}
use Rattle.tick_table.specs.declared.entry.Start.{Start}
use Rattle.tick_table.specs.declared.entry.Entry.{Entry}
use Rattle.tick_table.specs.Ticks.{ticks}
use Rattle.tick_table.specs.Claims.{StatesAreReached, RuleIsPlain}
use Rattle.tick_table.specs.Seen.{SeatView, Claimed, entry}
use Rattle.tick_table.specs.Seats.{Known, Seated, by_first, shown, HasOne}

pub laws : Laws ticks
laws = record {
  others = λ start log event pass legal guard apart. refl;
  one_word = λ start log event legal guard. ap (λ (n : ℕ). n ∷ []) (state-append ticks start log (event ∷ []));
}

pub states_are_reached : StatesAreReached
states_are_reached start log = refl

pub rule_is_plain : RuleIsPlain
rule_is_plain start s rule = let points = points_hold ticks start s rule in record { points = points; word = points.words }

pub keeps_one : (n : ℕ) → 0 < times n (n ∷ [])
keeps_one n = let e = eq-eqb n n refl in rw e (omega arith)

-- what holds of a seat with one number
at_one : (P : Known → Type 0) (n : ℕ) (v : Known) → HasOne n v → P (knows v.start (n ∷ []) (log_of v.parts)) → P v
at_one P n v one h = subst (λ ps. P (view v.start ps)) (sym one.parts) h

from_one : (P : Known → Type 0) (n : ℕ) (v : Known) → HasOne n v → P v → P (knows v.start (n ∷ []) (log_of v.parts))
from_one P n v one h = subst (λ ps. P (view v.start ps)) one.parts h

-- the event of a seat that claims a tick
abbrev claim_of : Known → ℕ → Entry
claim_of v tick = by_first (numbers_of v.parts) tick

-- a seat may claim at any time, by one step that leaves the greater of the word and its tick
ready : (n : ℕ) (v : Known) (tick : ℕ) → HasOne n v → n < v.start.desks → Ready ticks v (claim_of v tick) 0 (λ k. max k tick)
ready n v tick one inside = at_one (λ u. Ready ticks u (claim_of u tick) 0 (λ k. max k tick)) n v one
    (ready_one ticks laws v.start (n ∷ []) (log_of v.parts) (entry n tick) 0 (λ k. max k tick) (keeps_one n) refl inside (λ long legal same. refl))

-- what the step owes
pub claim_keeps : (key : Start) (slots id n : ℕ) (me : Seated) (tick : ℕ) → HasOne n me.0 → n < me.0.start.desks
    → Allows (Running ticks key) slots id me 0 (λ k. max k tick) (λ k after. TookAt ticks (claim_of me.0 tick) me.0 k after.0 × (after.1 ≡ me.1))
claim_keeps key slots id n me tick one inside =
    takes ticks laws key slots id me (claim_of me.0 tick) 0 (λ k. max k tick) (λ k after. TookAt ticks (claim_of me.0 tick) me.0 k after.0 × (after.1 ≡ me.1)) (ready n me.0 tick one inside) (λ k w told. (told, refl))

-- what it tells
module _ (n : ℕ) (v w : Known) (tick k : ℕ) (one : HasOne n v) (told : TookAt ticks (claim_of v tick) v k w) where
  step : TookAt ticks (entry n tick) (knows v.start (n ∷ []) (log_of v.parts)) k w
  step = from_one (λ u. TookAt ticks (claim_of u tick) u k w) n v one told

  pub claim_tells : (z z' : TableId) (p : SeatView) → shown z n v ≡ p → z' ≡ z → Claimed p tick k (shown z' n w)
  claim_tells z z' p is same =
      let t = step.took in
      subst (λ q. Claimed q tick k (shown z' n w)) is (record {
        before = t.before;
        now = λ i. shown (same i) n (t.now i);
        begins = t.parts.0.begins;
        own = t.parts.0.own n (keeps_one n);
        word = step.answer;
      })

  -- the seat still keeps its one number
  pub claim_stays : HasOne n w × (w.start ≡ v.start)
  claim_stays = let t = step.took in (subst (HasOne n) (sym t.now) (record { parts = refl }), ap (λ (x : Known). x.start) t.now)
