-- A poll: the steps of a call up to the first that is answered.
--     poll_moves most start s pass, poll_answer most start s pass      the first steps of a poll, at most so many, and what the last of them tells
--     most_steps start s pass      more steps than a poll takes
--     StepsFollow, PollsAreShort      what each step leaves, and how many a poll takes
use Rattle.std.specs.Prelude.{ℕ, zero, suc, ◌+◌, ◌*◌, ◌<◌, ◌≤◌, Bool, true, false, List, [], ◌∷◌, length, if◌then◌else◌}
use Rattle.fn_core.specs.declared.Start.{Start}
use Rattle.fn_core.specs.declared.Move.{Move}
use Rattle.fn_core.specs.declared.Move.TheVariants.{Exchange}
use Rattle.fn_core.specs.declared.answer.CoreStep.{CoreStep}
use Rattle.fn_core.specs.declared.answer.CoreStep.TheVariants.{Going}
use Rattle.fn_core.specs.State.{State}
use Rattle.fn_core.specs.Machine.{moves}
use Rattle.fn_core.specs.Order.{next_move}
use Rattle.fn_core.specs.Bound.{steps_left}
use Rattle.fn_core.specs.Laws.{Always, IsUnderway, HoldsRows}
use Rattle.fn_core.specs.Calls.{CoreLog, state_in, IsLegal, HasCall, with_move, step_answer, Follows}

-- after every legal log what the next step of a call tells is so
abbrev pub StepsFollow : Type 0
StepsFollow = (core : CoreLog) (pass : ℕ) → IsLegal core → pass < core.start.shape.passes → HasCall core pass
    → let step = next_move core.start (state_in core) pass in Follows core (with_move core pass step) pass (step_answer core.start (state_in core) pass)

-- whether a step leaves its call going
abbrev pub is_going : CoreStep → Bool
is_going Going = true
is_going _ = false

-- one step more than the pass's call has left, so more than a poll takes before it is answered
abbrev pub most_steps : Start → State → ℕ → ℕ
most_steps start s pass = suc (steps_left start s pass (start.shape.passes * start.shape.rows))

-- the steps of a poll: those of the call up to the first that doesn't leave it going
abbrev pub poll_moves : ℕ → Start → State → ℕ → List Move
poll_moves zero start s pass = []
poll_moves (suc most) start s pass =
    let move = next_move start s pass in
    move ∷ (if is_going (step_answer start s pass) then poll_moves most start (moves start s pass move) pass else [])

-- what the last of them tells
abbrev pub poll_answer : ℕ → Start → State → ℕ → CoreStep
poll_answer zero start s pass = Going
poll_answer (suc most) start s pass =
    let told = step_answer start s pass in
    if is_going told then poll_answer most start (moves start s pass (next_move start s pass)) pass else told

-- how many of some steps are exchanges
abbrev pub is_exchange : Move → Bool
is_exchange (Exchange kind amount) = true
is_exchange _ = false

abbrev pub exchanges : List Move → ℕ
exchanges [] = 0
exchanges (move ∷ rest) = if is_exchange move then suc (exchanges rest) else exchanges rest

-- a poll takes at most levels * (2 * n + 14) steps, where no aggregator on the pass's way has more than n rows, and at most one exchange among them
abbrev pub PollsAreShort : Type 0
PollsAreShort = Always (λ start s. (pass n : ℕ) → pass < start.shape.passes → IsUnderway start s pass → HoldsRows start pass n
    → let steps = poll_moves (most_steps start s pass) start s pass in (length steps ≤ start.shape.levels * (2 * n + 14)) × (exchanges steps ≤ 1))
