-- Which batches have gone up.
--     Gone start s p kind level hi      the pass's batch at this level ends at hi, and has gone up
--     IsUp start s kind level index end      the last batch of the aggregator that has gone up ends there
--     IsContiguous start s      the published batches have gone up, and at most one more
--     HoldsBase stage lo hi base      a delegate that holds this base for its batch from lo up to hi
use Rattle.std.specs.Prelude.{◌≡◌, ◌⊎◌, ℕ, suc, Bool, true, false}
use Rattle.fn_model.specs.declared.Kind.{Kind}
use Rattle.fn_model.specs.Order.{end_of_batches, batches_of}
use Rattle.fn_rows.specs.declared.Stage.{Stage}
use Rattle.fn_rows.specs.declared.Stage.TheVariants.{Out, Saw, Told, Shut, Based, Headed, FilledLo, FilledBase, Filled, Pointed}
use Rattle.fn_core.specs.Tree.{parent, aggregator}
use Rattle.fn_core.specs.State.{Start, State, stage}

-- the member has arrived
abbrev pub has_come : Stage → Bool
has_come Out = false
has_come (Saw seen) = false
has_come (Told seen) = false
has_come _ = true

-- the member's batch up to hi has gone up, where it stands so one level above
abbrev pub HasGone : Stage → Stage → ℕ → Type 0
HasGone (Shut at h) upper hi = (h ≡ hi) × (has_come upper ≡ true)
HasGone (Based at h b) upper hi = h ≡ hi
HasGone (Headed at h b w) upper hi = h ≡ hi
HasGone (FilledLo at h b w r) upper hi = h ≡ hi
HasGone (FilledBase at h b w r) upper hi = h ≡ hi
HasGone (Filled at h b r) upper hi = h ≡ hi
HasGone (Pointed at h b r) upper hi = h ≡ hi
HasGone _ upper hi = ⊥

-- .. of a pass
abbrev pub Gone : Start → State → ℕ → Kind → ℕ → ℕ → Type 0
Gone start s p kind level hi = HasGone (stage start s kind level p) (stage start s kind (suc level) p) hi

-- the last batch of the aggregator that has gone up ends there
abbrev pub IsUp : Start → State → Kind → ℕ → ℕ → ℕ → Type 0
IsUp start s kind level index end =
    (level ≡ start.shape.levels → end_of_batches index 0 (batches_of kind s.steps) ≡ end)
    × ((level ≡ start.shape.levels → ⊥) → end_of_batches index 0 (s.arrivals kind (suc level) (parent level index)) ≡ end)

-- all that has gone up is published, but for a batch that a pass knows of
abbrev pub Backs : Start → State → Kind → ℕ → ℕ → Type 0
Backs start s kind below index = IsUp start s kind (suc below) index (s.rows kind (suc below) index).done ⊎ ((p hi : ℕ) × (aggregator start.shape p (suc below) ≡ index) × Gone start s p kind (suc below) hi)

-- a batch that has gone up is the last one, and no other than the published ones and one that a pass knows of has gone up
pub record IsContiguous (start : Start) (s : State) : Type 0 where
  pub gone : (p : ℕ) (kind : Kind) (below hi : ℕ) → Gone start s p kind (suc below) hi → IsUp start s kind (suc below) (aggregator start.shape p (suc below)) hi
  pub back : (kind : Kind) (below index : ℕ) → Backs start s kind below index

-- the delegate holds this base for its batch from lo up to hi
abbrev pub HoldsBase : Stage → ℕ → ℕ → ℕ → Type 0
HoldsBase (Based at h b) lo hi base = (at ≡ lo) × (h ≡ hi) × (b ≡ base)
HoldsBase (Headed at h b w) lo hi base = (at ≡ lo) × (h ≡ hi) × (b ≡ base)
HoldsBase (FilledLo at h b w r) lo hi base = (at ≡ lo) × (h ≡ hi) × (b ≡ base)
HoldsBase (FilledBase at h b w r) lo hi base = (at ≡ lo) × (h ≡ hi) × (b ≡ base)
HoldsBase (Filled at h b r) lo hi base = (at ≡ lo) × (h ≡ hi) × (b ≡ base)
HoldsBase (Pointed at h b r) lo hi base = (at ≡ lo) × (h ≡ hi) × (b ≡ base)
HoldsBase _ lo hi base = ⊥
