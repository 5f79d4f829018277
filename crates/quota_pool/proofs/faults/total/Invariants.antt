use Rattle.std.proofs.Common.{◌≡◌, ◌+◌, ◌*◌, ◌^◌, ◌<◌, sum, take}
use Rattle.quota_pool.proofs.faults.total.Given as goal

abbrev pub invariant-loop-allowance : goal.invariant-loop-allowance
invariant-loop-allowance l =
    (l.total ≡ l.opening + sum (take l.allowance-index l.allowances)) × (l.total < 2 ^ 64 * (l.allowance-index + 1))
