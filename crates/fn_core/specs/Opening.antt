-- What a funnel opens with.
--     AreLevel shape level places      these are the aggregators of a level, by index, which nobody has reached
--     AreKind shape places      these are the aggregators of one kind, level by level
use Rattle.std.specs.Prelude.{◌≡◌, ℕ, ◌+◌, ◌-◌, ◌<◌, ◌≤◌, List, length, Some, slice_get}
use Rattle.fn_model.specs.declared.Kind.{Kind}
use Rattle.fn_rows.specs.Aggregator.{Aggregator}
use Rattle.fn_rows.specs.Trace.{Traced, nothing}
use Rattle.fn_layout.specs.declared.shape.Shape.{Shape}
use Rattle.fn_layout.specs.Tree.{width, first_widths}
use Rattle.fn_core.specs.declared.machine.Standing.{Standing}
use Rattle.fn_core.specs.State.{Resting}
use Rattle.fn_core.specs.Fields.{IsPlace}

-- the aggregator of this level and index stands at this place, and nobody has reached it
abbrev pub IsUnreachedAt : Shape → List Aggregator → ℕ → ℕ → ℕ → Type 0
IsUnreachedAt shape places at level index = (a : Aggregator) × (slice_get places at ≡ Some a) × IsPlace shape level index nothing a

-- these are the first aggregators of a level, by index
abbrev pub AreFirst : Shape → ℕ → ℕ → List Aggregator → Type 0
AreFirst shape level n places = (length places ≡ n) × ((index : ℕ) → index < n → IsUnreachedAt shape places index level index)

-- these are the aggregators of a level
abbrev pub AreLevel : Shape → ℕ → List Aggregator → Type 0
AreLevel shape level places = AreFirst shape level (width shape level) places

-- these are the aggregators of the levels below this one, level by level
abbrev pub AreBelow : Shape → ℕ → List Aggregator → Type 0
AreBelow shape top places = (length places ≡ first_widths shape.leaves (top - 1))
    × ((level index : ℕ) → 1 ≤ level → level < top → index < width shape level → IsUnreachedAt shape places (first_widths shape.leaves (level - 1) + index) level index)

-- these are the aggregators of one kind
abbrev pub AreKind : Shape → List Aggregator → Type 0
AreKind shape places = AreBelow shape (shape.levels + 1) places

-- nobody has reached any aggregator
abbrev pub unreached : Kind → ℕ → ℕ → Traced
unreached kind level index = nothing

-- a pass that rests, with this allowance
abbrev pub resting : ℕ → Standing
resting left = record { position = Resting; left = left }
