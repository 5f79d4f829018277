-- The base that a delegate holds is the one that its batch meets.
use Rattle.std.proofs.Common.{◌≡◌, ℕ, suc, List, subst}
use Rattle.fn_model.specs.declared.Call.{Call}
use Rattle.fn_model.specs.declared.Kind.{Kind}
use Rattle.fn_model.specs.Arrivals.{Arrival, Table}
use Rattle.fn_rows.specs.declared.Stage.{Stage}
use Rattle.fn_rows.specs.declared.Stage.TheVariants.{Based, Headed, FilledLo, FilledBase, Filled, Pointed}
use Rattle.fn_core.specs.Tree.{aggregator}
use Rattle.fn_core.specs.State.{State, opened, history_in, stage}
use Rattle.fn_core.specs.Machine.{run}
use Rattle.fn_core.specs.Batches.{HoldsBase}
use Rattle.fn_core.specs.Laws.{HeldBasesAreRight}
use Rattle.fn_core.proofs.Known.{Brings, Meets, Knows}
use Rattle.fn_core.proofs.Whole.{Whole}
use Rattle.fn_core.proofs.Laws.{holds}

module _ (cap opening : ℕ) (kind : Kind) (table : Table) (past : List Call) (below index : ℕ) (Brought : Arrival → Type 0) where
  abbrev Known : Stage → Type 0
  Known = Knows cap opening kind table past below index Brought

  abbrev Base : ℕ → ℕ → ℕ → Type 0
  Base = Meets cap opening table past (suc below) index

  same_base : (at h b lo hi base : ℕ) → Base at h b → (at ≡ lo) × (h ≡ hi) × (b ≡ base) → Base lo hi base
  same_base at h b lo hi base meets same = subst (λ (x : ℕ). Base x hi base) same.0 (subst (λ (x : ℕ). Base at x base) same.1 (subst (λ (x : ℕ). Base at h x) same.2 meets))

  -- the base that a delegate holds is its batch's
  held_base : (g : Stage) (lo hi base : ℕ) → Known g → HoldsBase g lo hi base → Base lo hi base
  held_base (Based at h b) lo hi base known is = same_base at h b lo hi base known.1 is
  held_base (Headed at h b w) lo hi base known is = same_base at h b lo hi base known.1 is
  held_base (FilledLo at h b w r) lo hi base known is = same_base at h b lo hi base known.1 is
  held_base (FilledBase at h b w r) lo hi base known is = same_base at h b lo hi base known.1 is
  held_base (Filled at h b r) lo hi base known is = same_base at h b lo hi base known.1 is
  held_base (Pointed at h b r) lo hi base known is = same_base at h b lo hi base known.1 is
  held_base _ lo hi base known is = absurd is

pub held_bases_are_right : HeldBasesAreRight
held_bases_are_right start log ok legal pass kind below lo hi base is =
    let s : State = run start log (opened start) in
    let w : Whole start s = (holds start log ok legal).0 in
    let g : Stage = stage start s kind (suc below) pass in
    held_base start.cap start.opening kind (s.arrivals kind) (history_in start s) below (aggregator start.shape pass (suc below)) (Brings (s.callers pass).last (aggregator start.shape pass below) below (stage start s kind below pass)) g lo hi base (w.good.known pass kind below) is
