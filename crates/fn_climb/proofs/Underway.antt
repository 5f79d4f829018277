-- What is known of a call from how far it has come: its level, its stage, and its next step, which it may take.
use Rattle.std.proofs.Common.{◌≡◌, ℕ, ◌-◌, Option, Some, None, sym, ap, subst, ◌∙◌}
use Rattle.fn_rows.specs.declared.Stage.{Stage}
use Rattle.fn_layout.specs.declared.shape.Shape.{Shape}
use Rattle.fn_layout.specs.Kinds.{IsFunnelled}
use Rattle.fn_layout.specs.Tree.{IsLevel, aggregator}
use Rattle.fn_layout.specs.Words.{IsSlot, IsAggregator}
use Rattle.fn_layout.proofs.Tree.{aggregator_below}
use Rattle.fn_core.specs.declared.Move.TheVariants.{Exchange}
use Rattle.fn_core.specs.declared.Position.TheVariants.{Climbing, Deciding}
use Rattle.fn_core.specs.State.{State, stage, hi_of, lo_of}
use Rattle.fn_core.specs.Words.{IsPlaced}
use Rattle.fn_core.specs.Order.{next_at, next_by}
use Rattle.fn_core.specs.Positions.{IsClimbing, Fits}
use Rattle.fn_core.specs.Calls.{state_in}
use Rattle.fn_core.proofs.Public.{calls_are_placed, calls_always_go_on, positions_fit}
use Rattle.fn_table.specs.Seen.{PassView, May, own_of}
use Rattle.fn_climb.specs.declared.course.Course.{Course}
use Rattle.fn_climb.specs.Course.{position_by, position_of, Holds}
use Rattle.fn_climb.specs.Next.{next_step}

module _ {p : PassView} {c : Course} (h : Holds p c) where
  abbrev s : State
  s = state_in p.seen

  abbrev shape : Shape
  shape = p.seen.start.shape

  placed_by : (word : Option ℕ) → IsPlaced shape (position_by c.kind c.level word) → IsFunnelled c.kind × IsLevel shape c.level
  placed_by None placed = placed
  placed_by (Some word) placed = placed

  -- its kind and level
  pub placed : IsFunnelled c.kind × IsLevel shape c.level
  placed = placed_by c.word (subst (IsPlaced shape) h.course.position (calls_are_placed p.seen.start p.seen.log h.legal.1 p.number))

  pub slot : IsSlot shape p.number c.kind c.level
  slot = (h.inside, placed.0, placed.1)

  pub its_aggregator : IsAggregator shape c.kind c.level (aggregator shape p.number c.level)
  its_aggregator = (placed.0, placed.1, aggregator_below shape p.number c.level)

  fits_by : (word : Option ℕ) → Fits shape.levels (own_of p).stages (position_by c.kind c.level word) → IsClimbing shape.levels (own_of p).stages c.kind c.level
  fits_by None fits = fits
  fits_by (Some word) fits = fits.0

  fits : Fits shape.levels (own_of p).stages (position_of c)
  fits = subst (Fits shape.levels (own_of p).stages) h.course.position (positions_fit p.seen.start p.seen.log h.legal.0 h.legal.1 p.number)

  -- where its pass stands at each level
  pub climbs : IsClimbing shape.levels (own_of p).stages c.kind c.level
  climbs = fits_by c.word fits

  pub held_is : c.stage ≡ stage p.seen.start s c.kind c.level p.number
  held_is = h.course.here

  -- it may take its next step
  pub may_next : May p (next_step p)
  may_next = calls_always_go_on p.seen.start p.seen.log h.legal.0 h.legal.1 p.number h.inside h.call

  module _ (none : c.word ≡ None) where
    pub climbing_at : (s.callers p.number).position ≡ Climbing c.kind c.level
    climbing_at = h.course.position ∙ ap (position_by c.kind c.level) none

    pub stage_now : {g : Stage} → c.stage ≡ g → (own_of p).stages c.kind c.level ≡ g
    stage_now is = sym held_is ∙ is

    -- its next step, by where it stands
    pub next_at_stage : {g : Stage} → c.stage ≡ g → next_step p ≡ next_at p.seen.start s p.number c.kind c.level g
    next_at_stage is = ap (next_by p.seen.start s p.number) climbing_at ∙ ap (next_at p.seen.start s p.number c.kind c.level) (stage_now is)

    pub may_at_stage : {g : Stage} → c.stage ≡ g → May p (next_at p.seen.start s p.number c.kind c.level g)
    may_at_stage is = subst (May p) (next_at_stage is) may_next

  module _ {word : ℕ} (loaded : c.word ≡ Some word) where
    pub deciding_at : (s.callers p.number).position ≡ Deciding c.kind c.level word
    deciding_at = h.course.position ∙ ap (position_by c.kind c.level) loaded

    -- where it has loaded the main word, it exchanges it
    pub next_exchange : next_step p ≡ Exchange c.kind (hi_of (c.stage) - lo_of (c.stage))
    next_exchange = ap (next_by p.seen.start s p.number) deciding_at ∙ ap (λ (g : Stage). Exchange c.kind (hi_of g - lo_of g)) (sym held_is)
