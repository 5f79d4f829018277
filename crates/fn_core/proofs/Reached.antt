-- What a machine that has taken a legal log knows of its passes.
use Rattle.std.proofs.Common.{◌≡◌, inl, inr, ℕ, ◌<◌, List}
use Rattle.fn_model.specs.declared.Kind.{Kind}
use Rattle.fn_model.specs.declared.Kind.TheVariants.{Add, Sub, Read}
use Rattle.fn_layout.specs.Kinds.{IsFunnelled}
use Rattle.fn_layout.specs.Words.{IsSlot}
use Rattle.fn_core.specs.declared.Event.{Event}
use Rattle.fn_core.specs.declared.machine.Machine.{Machine}
use Rattle.fn_core.specs.State.{Climbing, State, opened}
use Rattle.fn_core.specs.Machine.{IsChange, run}
use Rattle.fn_core.specs.Fields.{Stands}
use Rattle.fn_core.proofs.Whole.{Whole, climbing}
use Rattle.fn_core.proofs.Laws.{holds}

-- additions and subtractions go through aggregators
pub change_funnelled : (kind : Kind) → IsChange kind → IsFunnelled kind
change_funnelled Add change = λ is. absurd (cc)
change_funnelled Sub change = λ is. absurd (cc)
change_funnelled Read (inl is) = absurd (cc)
change_funnelled Read (inr is) = absurd (cc)

module _ (m : Machine) (log : List Event) (stands : Stands m log) (pass : ℕ) (inside : pass < m.start.shape.passes) where
  abbrev now : State
  now = run m.start log (opened m.start)

  pub whole : Whole m.start now
  whole = (holds m.start log stands.start_ok stands.legal).0

  -- a pass that climbs makes a call at a level of the shape
  pub climbs_slot : (kind : Kind) (level : ℕ) → (now.callers pass).position ≡ Climbing kind level → IsSlot m.start.shape pass kind level
  climbs_slot kind level is = let up = climbing m.start stands.start_ok now whole pass kind level is in (inside, change_funnelled kind up.change, (up.low, up.high))
