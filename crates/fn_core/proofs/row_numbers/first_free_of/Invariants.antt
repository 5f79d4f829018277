use Rattle.std.proofs.Common.{ℕ, ◌+◌, ◌*◌, ◌<◌}
use Rattle.fn_rows.specs.Aggregator.{state_of}
use Rattle.fn_rows.specs.Machine.{IsFree}
use Rattle.fn_core.proofs.row_numbers.first_free_of.Given as goal

abbrev pub invariant-loop-n : goal.invariant-loop-n
invariant-loop-n l = (k : ℕ) → k < l.n → IsFree l.state.members (state_of l.state) l.member (l.member * l.rows + k) → ⊥
