-- Where a call has yet to fill a row.
--     FillsAt stages position kind level      a call in this position, with these stages, has yet to fill a row at this level of its kind
use Rattle.std.specs.Prelude.{◌≡◌, ◌⊎◌, ℕ, ◌<◌, ◌≤◌, Bool, true, false}
use Rattle.fn_model.specs.declared.Kind.{Kind}
use Rattle.fn_rows.specs.declared.Stage.{Stage}
use Rattle.fn_rows.specs.declared.Stage.TheVariants.{Saw, Told, Waiting, Lead, Shut, Based, Headed}
use Rattle.fn_core.specs.State.{Position, Climbing, Deciding}

-- whether a member at this stage may still come to fill its row
abbrev pub fills_later : Stage → Bool
fills_later (Saw seen) = true
fills_later (Told seen) = true
fills_later (Waiting at) = true
fills_later (Lead at) = true
fills_later (Shut at hi) = true
fills_later (Based at hi b) = true
fills_later (Headed at hi b h) = true
fills_later _ = false

-- whether a member at this stage may still go up
abbrev pub climbs_later : Stage → Bool
climbs_later (Saw seen) = true
climbs_later (Told seen) = true
climbs_later (Waiting at) = true
climbs_later (Lead at) = true
climbs_later (Shut at hi) = true
climbs_later _ = false

-- a call that has climbed up to here, and stands there so, may still come to fill a row at this level: below, here, or above
abbrev pub MayFillAt : ℕ → Stage → ℕ → Type 0
MayFillAt here stage level = (level < here) ⊎ (((level ≡ here) × (fills_later stage ≡ true)) ⊎ ((here < level) × (climbs_later stage ≡ true)))

-- .. by the position of the pass
abbrev pub FillsAt : (Kind → ℕ → Stage) → Position → Kind → ℕ → Type 0
FillsAt stages (Climbing k here) kind level = (kind ≡ k) × MayFillAt here (stages k here) level
FillsAt stages (Deciding k here word) kind level = (kind ≡ k) × (level ≤ here)
FillsAt stages _ kind level = ⊥
