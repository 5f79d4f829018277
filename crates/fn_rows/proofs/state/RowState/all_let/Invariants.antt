use Rattle.std.proofs.Common.{◌≢◌, ℕ, ◌<◌}
use Rattle.fn_rows.specs.Aggregator.{HasLet}
use Rattle.fn_rows.proofs.state.RowState.all_let.Given as goal

abbrev pub invariant-loop-other : goal.invariant-loop-other
invariant-loop-other l = (q : ℕ) → q < l.other → q ≢ l.member → HasLet l.self l.member q l.end
