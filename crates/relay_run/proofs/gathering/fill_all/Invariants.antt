use Rattle.std.proofs.Common.{◌≡◌, drop, map}
use Rattle.relay_run.specs.Filling.{all_filled}
use Rattle.relay_run.proofs.gathering.fill_all.Given as goal

abbrev pub invariant-loop-worker : goal.invariant-loop-worker
invariant-loop-worker l =
    all_filled l.workers l.worker (map (λ own. own.items) (drop l.worker l.tickets)) l.order ≡ all_filled l.workers 0 (map (λ own. own.items) l.tickets) l.fn.order
