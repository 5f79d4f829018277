-- Which stages go with the position of a pass.
--     IsClimbing levels stages kind level      a call climbs at this level
--     Fits levels stages position      the stages that go with the position
use Rattle.std.specs.Prelude.{◌≡◌, ◌≢◌, ℕ, ◌<◌, ◌≤◌, Bool, true, false}
use Rattle.fn_model.specs.declared.Kind.{Kind}
use Rattle.fn_rows.specs.declared.Stage.{Stage}
use Rattle.fn_rows.specs.declared.Stage.TheVariants.{Out, Shut}
use Rattle.fn_core.specs.Machine.{IsChange}
use Rattle.fn_core.specs.State.{Position, Resting, Trying, Climbing, Deciding}

-- whether a member stands nowhere
abbrev pub is_out : Stage → Bool
is_out Out = true
is_out _ = false

-- a call climbs at this level: it stands there, below it the batches are closed, and it stands nowhere else
pub record IsClimbing (levels : ℕ) (stages : Kind → ℕ → Stage) (kind : Kind) (level : ℕ) : Type 0 where
  pub low : 1 ≤ level
  pub bottom : stages kind 0 ≡ Out
  pub high : level ≤ levels
  pub closed : (l : ℕ) → 1 ≤ l → l < level → (at hi : ℕ) × (stages kind l ≡ Shut at hi)
  pub change : IsChange kind
  pub there : is_out (stages kind level) ≡ false
  pub above : (l : ℕ) → level < l → stages kind l ≡ Out
  pub other : (k : Kind) (l : ℕ) → k ≢ kind → stages k l ≡ Out

-- the stages that go with a position
abbrev pub Fits : ℕ → (Kind → ℕ → Stage) → Position → Type 0
Fits levels stages Resting = (k : Kind) (l : ℕ) → stages k l ≡ Out
Fits levels stages (Trying word) = (k : Kind) (l : ℕ) → stages k l ≡ Out
Fits levels stages (Climbing kind level) = IsClimbing levels stages kind level
Fits levels stages (Deciding kind level word) = IsClimbing levels stages kind level × (level ≡ levels) × (at hi : ℕ) × (stages kind level ≡ Shut at hi)
