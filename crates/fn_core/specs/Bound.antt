-- How many own steps a call has left.
--     rank n visited stage      the steps that are left at a stage, where at most n rows are visited and so many have been
--     climb_cost n levels      the steps that so many further levels cost
--     steps_left start s pass n      the steps that the pass's call has left, but for looks below its offset and tries that lose
use Rattle.std.specs.Prelude.{ℕ, zero, suc, ◌+◌, ◌-◌, ◌*◌, length}
use Rattle.fn_model.specs.declared.Kind.{Kind}
use Rattle.fn_rows.specs.declared.Stage.{Stage}
use Rattle.fn_rows.specs.declared.Stage.TheVariants.{Out, Saw, Told, Waiting, Lead, Late, Shut, Based, Headed, FilledLo, FilledBase, Filled, Pointed, At, Over, Hit, Got}
use Rattle.fn_core.specs.Tree.{aggregator, member}
use Rattle.fn_core.specs.State.{Start, Position, Climbing, Deciding, State, stage}

-- the steps that are left at an aggregator
abbrev pub rank : ℕ → ℕ → Stage → ℕ
rank n visited Out = 0
rank n visited (Saw seen) = 13 + 2 * n
rank n visited (Told seen) = 12 + 2 * n
rank n visited (Waiting at) = 11 + 2 * n
rank n visited (Lead at) = 10
rank n visited (Late at) = 2 + 2 * n
rank n visited (Shut at hi) = 9
rank n visited (Based at hi b) = 7
rank n visited (Headed at hi b h) = 6
rank n visited (FilledLo at hi b h r) = 5
rank n visited (FilledBase at hi b h r) = 4
rank n visited (Filled at hi b r) = 3
rank n visited (Pointed at hi b r) = 2
rank n visited (At at r) = 3 + 2 * (n - visited)
rank n visited (Over at r) = 2 + 2 * (n - visited)
rank n visited (Hit at r lo) = 2
rank n visited (Got b ahead) = 1

-- what further levels cost
abbrev pub climb_cost : ℕ → ℕ → ℕ
climb_cost n zero = 0
climb_cost n (suc levels) = climb_cost n levels + (2 * n + 13)

-- .. where the call may still go up
abbrev pub to_climb : ℕ → Stage → ℕ
to_climb cost (Saw seen) = cost
to_climb cost (Told seen) = cost
to_climb cost (Waiting at) = cost
to_climb cost (Lead at) = cost
to_climb cost (Shut at hi) = cost
to_climb cost _ = 0

-- the steps that are left at this level and above, and on the way down below it
abbrev pub left_at : ℕ → ℕ → ℕ → ℕ → Stage → ℕ
left_at n levels level visited g = rank n visited g + to_climb (climb_cost n (levels - level)) g + 8 * (level - 1)

-- how many rows a late member has had in hand
abbrev pub visited_by : Start → State → ℕ → Kind → ℕ → ℕ
visited_by start s pass kind level = length ((s.rows kind level (aggregator start.shape pass level)).walk (member start.shape level pass))

abbrev pub steps_left_by : Start → State → ℕ → ℕ → Position → ℕ
steps_left_by start s pass n (Climbing kind level) = left_at n start.shape.levels level (visited_by start s pass kind level) (stage start s kind level pass)
steps_left_by start s pass n (Deciding kind level word) = 8 + 8 * (level - 1)
steps_left_by start s pass n _ = 0

-- the steps that the pass's call has left
abbrev pub steps_left : Start → State → ℕ → ℕ → ℕ
steps_left start s pass n = steps_left_by start s pass n (s.callers pass).position
