-- What the result of a test says.
use Rattle.std.proofs.Common.{◌≡◌, inl, inr, ℕ, zero, suc, ◌-◌, ◌%◌, ◌<◌, ◌≤◌, arith, Bool, true, false, refl, sym, ap, subst, ◌∙◌}
use Rattle.std.specs.Prelude.{IsTrue, ◌↔◌, ◌==◌}
use Rattle.std.proofs.lemmas.Bool.{false≢true, eqb-true, eq-eqb}
use Rattle.fn_model.specs.declared.Kind.{Kind}
use Rattle.fn_model.specs.declared.Kind.TheVariants.{Add, Sub, Read}
use Rattle.fn_core.specs.declared.Move.TheVariants.{Apply, Load, Exchange}
use Rattle.fn_core.specs.declared.Purpose.TheVariants.{Try}
use Rattle.fn_layout.specs.declared.shape.Shape.{Shape}
use Rattle.fn_layout.specs.Words.{slot_number, row_number}
use Rattle.fn_core.specs.Order.{own_row}
use Rattle.std.proofs.lemmas.Nat.{mod-mul-add, mod_below}
use Rattle.fn_core.specs.State.{Start, Position, Resting, Trying, Climbing, Deciding, State}
use Rattle.fn_core.specs.Machine.{IsChange, IsRow, MaySpend, HasClosed, MaySee, May, no_cap, weight_of}

-- where a test fails, what it tests doesn't hold
pub refuted : (result : Bool) (Holds : Type 0) → result ≡ false → IsTrue result ↔ Holds → Holds → ⊥
refuted result Holds is tied holds = false≢true (sym is ∙ tied.1 holds)

-- an exchange by where the pass stands
abbrev pub MayExchangeAt : Start → State → ℕ → Kind → ℕ → Position → Type 0
MayExchangeAt start s pass kind amount (Trying word) = IsChange kind × MaySpend s pass amount
MayExchangeAt start s pass kind amount (Deciding own level word) = (own ≡ kind) × (amount ≡ weight_of start s pass own level)
MayExchangeAt start s pass kind amount _ = ⊥

exchanges_at : (start : Start) (s : State) (pass : ℕ) (kind : Kind) (amount : ℕ) (position : Position) → May start s pass (Exchange kind amount) → (s.callers pass).position ≡ position → MayExchangeAt start s pass kind amount position
exchanges_at start s pass kind amount position (inl (word, at, change, spend)) is = subst (MayExchangeAt start s pass kind amount) (sym at ∙ is) (change, spend)
exchanges_at start s pass kind amount position (inr (level, word, at, weighs)) is = subst (MayExchangeAt start s pass kind amount) (sym at ∙ is) (refl, weighs)

at_exchanges : (start : Start) (s : State) (pass : ℕ) (kind : Kind) (amount : ℕ) (position : Position) → (s.callers pass).position ≡ position → MayExchangeAt start s pass kind amount position → May start s pass (Exchange kind amount)
at_exchanges start s pass kind amount (Trying word) is h = inl (word, is, h.0, h.1)
at_exchanges start s pass kind amount (Deciding own level word) is h = inr (level, word, is ∙ ap (λ (k : Kind). Deciding k level word) h.0, h.1 ∙ ap (λ (k : Kind). weight_of start s pass k level) h.0)
at_exchanges start s pass kind amount Resting is h = absurd h
at_exchanges start s pass kind amount (Climbing own level) is h = absurd h

pub decides_exchange : (start : Start) (s : State) (pass : ℕ) (kind : Kind) (amount : ℕ) (position : Position) (result : Bool) → (s.callers pass).position ≡ position → IsTrue result ↔ MayExchangeAt start s pass kind amount position → IsTrue result ↔ May start s pass (Exchange kind amount)
decides_exchange start s pass kind amount position result is tied = ((λ yes. at_exchanges start s pass kind amount position is (tied.0 yes)), (λ may. tied.1 (exchanges_at start s pass kind amount position may is)))

-- two tests, one after the other
pub both_decide : (result : Bool) (A B : Type 0) → A → IsTrue result ↔ B → IsTrue result ↔ (A × B)
both_decide result A B a tied = ((λ yes. (a, tied.0 yes)), (λ h. tied.1 h.1))

pub first_fails : (result : Bool) (A B : Type 0) → result ≡ false → IsTrue result ↔ A → IsTrue result ↔ (A × B)
first_fails result A B is tied = ((λ yes. absurd (false≢true (sym is ∙ yes))), (λ h. tied.1 h.0))

-- no exchange
pub no_exchange : (start : Start) (s : State) (pass : ℕ) (kind : Kind) (amount : ℕ) (position : Position) → ((word : ℕ) → position ≡ Trying word → ⊥) → ((own : Kind) (level word : ℕ) → position ≡ Deciding own level word → ⊥) → IsTrue false ↔ MayExchangeAt start s pass kind amount position
no_exchange start s pass kind amount (Trying word) tries decides = absurd (tries word refl)
no_exchange start s pass kind amount (Deciding own level word) tries decides = absurd (decides own level word refl)
no_exchange start s pass kind amount Resting tries decides = ((λ yes. absurd (false≢true yes)), (λ h. absurd h))
no_exchange start s pass kind amount (Climbing own level) tries decides = ((λ yes. absurd (false≢true yes)), (λ h. absurd h))

-- a number is the one that was found
pub same_weight : (a b w : ℕ) → b ≡ w → IsTrue (a == b) ↔ (a ≡ w)
same_weight a b w is = ((λ yes. eqb-true a b yes ∙ is), (λ same. eq-eqb a b (same ∙ sym is)))

-- a batch may be applied at the top, without a cap, with its own weight
pub decides_apply : (start : Start) (s : State) (pass weight top : ℕ) (result : Bool) → top ≡ start.shape.levels → ((s.callers pass).position ≡ Climbing Add top) × HasClosed start s pass Add top → start.cap ≡ no_cap → IsTrue result ↔ (weight ≡ weight_of start s pass Add top)
    → IsTrue result ↔ May start s pass (Apply weight)
decides_apply start s pass weight top result high at uncapped tied = (
  (λ yes. (top, at.0, (high, at.1), uncapped, tied.0 yes)),
  (λ may. tied.1 (may.4 ∙ ap (λ (l : ℕ). weight_of start s pass Add l) (may.2.0 ∙ sym high))),
)

pub no_apply : (start : Start) (s : State) (pass weight top : ℕ) (result : Bool) → top ≡ start.shape.levels → result ≡ false → IsTrue result ↔ (((s.callers pass).position ≡ Climbing Add top) × HasClosed start s pass Add top) → IsTrue false ↔ May start s pass (Apply weight)
no_apply start s pass weight top result high is tied = (
  (λ yes. absurd (false≢true yes)),
  (λ may. let same : may.0 ≡ top = may.2.0 ∙ sym high in absurd (false≢true (sym is ∙ tied.1 (may.1 ∙ ap (Climbing Add) same, subst (HasClosed start s pass Add) same may.2.1)))),
)

-- a call that goes up a level
pub sees_above : (start : Start) (s : State) (pass : ℕ) (kind : Kind) (level : ℕ) (result : Bool) → 2 ≤ level → level ≤ start.shape.levels → IsTrue result ↔ (((s.callers pass).position ≡ Climbing kind (level - 1)) × HasClosed start s pass kind (level - 1))
    → IsTrue result ↔ MaySee start s pass kind level
sees_above start s pass kind zero result low high tied = absurd (omega arith)
sees_above start s pass kind (suc zero) result low high tied = absurd (omega arith)
sees_above start s pass kind (suc (suc below)) result low high tied =
    let same : suc (suc below) - 1 ≡ suc below = omega arith in
    let known : IsTrue result ↔ (((s.callers pass).position ≡ Climbing kind (suc below)) × HasClosed start s pass kind (suc below)) = subst (λ (l : ℕ). IsTrue result ↔ (((s.callers pass).position ≡ Climbing kind l) × HasClosed start s pass kind l)) same tied in
    ((λ yes. let at = known.0 yes in (at.0, at.1, high)), (λ may. known.1 (may.0, may.1)))

-- a try, by where the pass stands
abbrev pub HasShutAt : Start → State → ℕ → Kind → ℕ → Type 0
HasShutAt start s pass kind top = ((s.callers pass).position ≡ Climbing kind top) × HasClosed start s pass kind top

pub tries_sub : (start : Start) (s : State) (pass top : ℕ) → top ≡ start.shape.levels → HasShutAt start s pass Sub top → IsTrue true ↔ May start s pass (Load Try)
tries_sub start s pass top high at = ((λ yes. inr (Sub, top, at.0, (high, at.1), (λ is. absurd (cc)))), (λ may. refl))

try_add : (start : Start) (s : State) (pass top : ℕ) → top ≡ start.shape.levels → ((s.callers pass).position ≡ Resting → ⊥) → (HasShutAt start s pass Sub top → ⊥) → ((level : ℕ) → (s.callers pass).position ≡ Climbing Read level → ⊥) → May start s pass (Load Try) → (start.cap < no_cap) × HasShutAt start s pass Add top
try_add start s pass top high awake below reads (inl rests) = absurd (awake rests)
try_add start s pass top high awake below reads (inr (Add, level, at, (is, closed), capped)) = let same : level ≡ top = is ∙ sym high in (capped refl, (at ∙ ap (Climbing Add) same, subst (HasClosed start s pass Add) same closed))
try_add start s pass top high awake below reads (inr (Sub, level, at, (is, closed), capped)) = let same : level ≡ top = is ∙ sym high in absurd (below (at ∙ ap (Climbing Sub) same, subst (HasClosed start s pass Sub) same closed))
try_add start s pass top high awake below reads (inr (Read, level, at, (is, closed), capped)) = absurd (reads level at)

pub tries_add : (start : Start) (s : State) (pass top : ℕ) (result : Bool) → top ≡ start.shape.levels → ((s.callers pass).position ≡ Resting → ⊥) → (HasShutAt start s pass Sub top → ⊥) → ((level : ℕ) → (s.callers pass).position ≡ Climbing Read level → ⊥) → start.cap < no_cap → IsTrue result ↔ HasShutAt start s pass Add top → IsTrue result ↔ May start s pass (Load Try)
tries_add start s pass top result high awake below reads capped tied =
    ((λ yes. let at = tied.0 yes in inr (Add, top, at.0, (high, at.1), (λ is. capped))), (λ may. tied.1 (try_add start s pass top high awake below reads may).1))

pub tries_none : (start : Start) (s : State) (pass top : ℕ) → top ≡ start.shape.levels → ((s.callers pass).position ≡ Resting → ⊥) → (HasShutAt start s pass Sub top → ⊥) → ((level : ℕ) → (s.callers pass).position ≡ Climbing Read level → ⊥) → (start.cap < no_cap → ⊥) → IsTrue false ↔ May start s pass (Load Try)
tries_none start s pass top high awake below reads uncapped =
    ((λ yes. absurd (false≢true yes)), (λ may. absurd (uncapped (try_add start s pass top high awake below reads may).0)))

-- a row is the pass's where it is the one with its own remainder
pub owns_row : (shape : Shape) (pass : ℕ) (kind : Kind) (level row own : ℕ) → own ≡ own_row shape pass kind level row → IsTrue (own == row) ↔ ((n : ℕ) × IsRow shape pass kind level row n)
owns_row shape pass kind level row own is = (
  (λ yes. (row % shape.rows, (mod_below row shape.rows (omega arith), sym (eqb-true own row yes) ∙ is))),
  (λ named. eq-eqb own row (is ∙ ap (row_number shape pass kind level) (ap (λ (x : ℕ). x % shape.rows) named.1.1 ∙ mod-mul-add (slot_number shape pass kind level) shape.rows named.0 named.1.0) ∙ sym named.1.1)),
)
