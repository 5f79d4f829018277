-- What a pass keeps of itself in plain fields, so that it needs no log.
--     Keeps pass tally      the fields are those of the pass's own
--     KeepsTally step      the step leaves the fields as they are
use Rattle.std.specs.Prelude.{◌≡◌, ℕ, ◌+◌, ◌*◌, ◌<◌, Bool, true, false, length, slice_index}
use Rattle.fn_model.specs.declared.Kind.{Kind}
use Rattle.fn_rows.specs.declared.Stage.TheVariants.{Pointed}
use Rattle.fn_layout.specs.Tree.{member}
use Rattle.fn_layout.specs.Words.{IsSlot, row_number}
use Rattle.fn_core.specs.declared.Start.{Start}
use Rattle.fn_core.specs.declared.Move.{Move}
use Rattle.fn_core.specs.declared.Move.TheVariants.{See, Arrive, Point, Publish, Leave, Exchange, Direct}
use Rattle.fn_core.specs.declared.Position.{Position}
use Rattle.fn_core.specs.declared.Position.TheVariants.{Climbing, Deciding}
use Rattle.fn_core.specs.Words.{Own}
use Rattle.fn_table.specs.declared.tally.Tally.{Tally}
use Rattle.fn_table.specs.Seen.{PassView, own_of}

-- the pass has a call on its way through aggregators
abbrev pub is_calling : Position → Bool
is_calling (Climbing kind level) = true
is_calling (Deciding kind level word) = true
is_calling _ = false

-- the fields are those of the pass with this own
pub record KeepsOwn (start : Start) (pass : ℕ) (o : Own) (t : Tally) : Type 0 where
  pub left : t.left ≡ o.caller.left
  pub calling : t.calling ≡ is_calling o.caller.position
  pub pointed : (kind : Kind) (level at hi b row : ℕ) → o.stages kind level ≡ Pointed at hi b row → row ≡ member start.shape level pass * start.shape.rows + t.pointed
  pub inside : t.pointed < start.shape.rows
  pub rows : length t.ends.items ≡ 2 * start.shape.levels * start.shape.rows
  pub ends : (kind : Kind) (level row : ℕ) → IsSlot start.shape 0 kind level → row < start.shape.rows → slice_index t.ends.items (row_number start.shape 0 kind level row) ≡ o.ends kind level row

abbrev pub Keeps : PassView → Tally → Type 0
Keeps p t = KeepsOwn p.seen.start p.number (own_of p) t

-- the step leaves what a pass keeps as it is
abbrev pub KeepsTally : Move → Type 0
KeepsTally (See kind level) = ⊥
KeepsTally (Arrive kind level weight) = ⊥
KeepsTally (Point kind level row) = ⊥
KeepsTally (Publish kind level) = ⊥
KeepsTally (Leave kind level) = ⊥
KeepsTally (Exchange kind amount) = ⊥
KeepsTally (Direct amount) = ⊥
KeepsTally _ = Unit {0}
