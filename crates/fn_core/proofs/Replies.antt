-- From a batch in the history down to what arrived in it.
use Rattle.std.proofs.Common.{◌≡◌, ℕ, suc, ◌-◌, ◌<◌, ◌≤◌, List, [], ◌∷◌, ◌++◌, ap, subst, arith}
use Rattle.std.specs.Prelude.{All}
use Rattle.std.proofs.lemmas.List.Elements.{All-head, All-tail}
use Rattle.fn_model.specs.declared.Call.{Call}
use Rattle.fn_model.specs.declared.Kind.{Kind}
use Rattle.fn_model.specs.Arrivals.{Arrival, Table, IsBoundary, ArrivesAt, IsSound, IsWellFormed}
use Rattle.fn_model.specs.Integer.{after}
use Rattle.fn_model.proofs.Histories.{descend}
use Rattle.fn_model.proofs.Orderly.{boundary_offset}
use Rattle.fn_core.proofs.Known.{Rides, Meets, Replied}

-- what holds of all items holds of one of them
pub All-middle : {X : Type 0} (P : X → Type 0) (earlier : List X) (a : X) (later : List X) → All P (earlier ++ a ∷ later) → P a
All-middle P [] a later h = All-head P a later h
All-middle P (x ∷ xs) a later h = All-middle P xs a later (All-tail P x (xs ++ a ∷ later) h)

pub arrival_sound : (kind : Kind) (table : Table) → IsWellFormed kind table → (below index at : ℕ) (a : Arrival) → ArrivesAt (table (suc below) index) at a → IsSound kind table below a
arrival_sound kind table formed below index at a found = All-middle (IsSound kind table below) found.earlier a found.later (subst (All (IsSound kind table below)) found.order (formed.sound below index))

module _ (cap opening : ℕ) (opens : opening ≤ cap) (kind : Kind) (table : Table) (formed : IsWellFormed kind table) (past : List Call) (below index : ℕ) (Brought : Arrival → Type 0) where
  -- a member finds its batch
  pub finds : (lo hi base at : ℕ) → IsBoundary (table (suc below) index) lo → lo ≤ at → at < hi → Meets cap opening table past (suc below) index lo hi base → Rides (table (suc below) index) Brought at → Replied cap opening kind table past below Brought (after cap base kind (at - lo))
  finds lo hi base at from a b meets rides = (
    rides.0,
    rides.1,
    arrival_sound kind table formed below index at rides.0 rides.2,
    descend cap opening past kind table below index lo hi base at rides.0 opens formed from a b rides.2 meets,
  )

  -- a delegate is the first of its batch
  pub first_of_batch : (at hi base : ℕ) → at < hi → Meets cap opening table past (suc below) index at hi base → Rides (table (suc below) index) Brought at → Replied cap opening kind table past below Brought (after cap base kind 0)
  first_of_batch at hi base some meets rides =
      let found = finds at hi base at (boundary_offset (table (suc below) index) at rides.0 rides.2) (omega arith) some meets rides in
      let same : after cap base kind (at - at) ≡ after cap base kind 0 = ap (after cap base kind) (let z : at - at ≡ 0 = omega arith in z) in
      subst (λ (b : ℕ). Replied cap opening kind table past below Brought b) same found
