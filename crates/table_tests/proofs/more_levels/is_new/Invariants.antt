use Rattle.std.proofs.Common.{◌≡◌, ℕ, ◌≤◌, ◌<◌}
use Rattle.fn_model.specs.declared.Kind.TheVariants.{Add}
use Rattle.fn_table.specs.Seen.{own_of}
use Rattle.table_tests.proofs.more_levels.is_new.Given as goal

abbrev pub invariant-loop-level : goal.invariant-loop-level
invariant-loop-level l = (k : ℕ) → 1 ≤ k → k < l.level → (own_of l.pass).ends Add k 0 ≡ 0
