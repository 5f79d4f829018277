use Rattle.std.proofs.Common.{◌≡◌, ◌+◌, ◌++◌, All, length, map}
use Rattle.std.specs.Vec.Iter.{into_iter_items, into_iter_len}
use Rattle.running.specs.Running.{upto}
use Rattle.relay_run.specs.Work.{IsReady, HasPlaces}
use Rattle.relay_run.proofs.workers.engage.Given as goal

abbrev pub invariant-loop-pass : goal.invariant-loop-pass
invariant-loop-pass l = record {
  number : l.worker ≡ length l.yielded;
  left : l.worker + into_iter_len l.pass-iterator ≡ length l.fn.passes.items;
  rest : l.yielded ++ into_iter_items l.pass-iterator ≡ l.fn.passes.items;
  numbers : map (λ worker. worker.share.worker) l.all.items ≡ upto l.worker;
  ready : All (IsReady l.queue) l.all.items;
  places : All (HasPlaces l.workers l.lines) l.all.items;
}
