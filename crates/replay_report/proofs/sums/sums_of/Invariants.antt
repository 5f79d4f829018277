use Rattle.std.proofs.Common.{◌≡◌, ℕ, ◌<◌, ◌≤◌, ◌*◌, ◌^◌, take, length, get_or}
use Rattle.std.specs.List.{zip}
use Rattle.replay_report.specs.Report.{added_to, taken_from}
use Rattle.replay_report.specs.declared.sums.Sums.{Sums}
use Rattle.replay_report.proofs.sums.sums_of.Given as goal

abbrev pub invariant-loop-i : goal.invariant-loop-i
invariant-loop-i l = record {
  count : length l.sums.items ≡ l.tenants;
  added : (tenant : ℕ) (d : Sums) → tenant < l.tenants → (get_or l.sums.items tenant d).added ≡ added_to tenant (take l.i (zip l.rows l.answers));
  taken : (tenant : ℕ) (d : Sums) → tenant < l.tenants → (get_or l.sums.items tenant d).taken ≡ taken_from tenant (take l.i (zip l.rows l.answers));
  few_added : (tenant : ℕ) (d : Sums) → tenant < l.tenants → (get_or l.sums.items tenant d).added ≤ l.i * 2 ^ 64;
  few_taken : (tenant : ℕ) (d : Sums) → tenant < l.tenants → (get_or l.sums.items tenant d).taken ≤ l.i * 2 ^ 64;
}
