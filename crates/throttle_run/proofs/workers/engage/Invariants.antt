use Rattle.std.proofs.Common.{◌≡◌, take}
use Rattle.throttle_run.specs.Work.{desks_in, Each, IsDealt}
use Rattle.throttle_run.proofs.workers.engage.Given as goal

abbrev pub invariant-loop-place : goal.invariant-loop-place
invariant-loop-place l = record {
  desks : desks_in l.all.items ≡ l.fn.desks.items;
  dealt : Each (IsDealt (take l.place l.lines)) l.all.items;
}
