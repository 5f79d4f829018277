-- Each worker is ready for its work, and what each call leaves stands in its place.
use Rattle.std.proofs.Common.{sym, subst}
use Rattle.relay_run.specs.Work.{IsReady, IsDone}
use Rattle.relay_run.proofs.workers.work_all.Goals as goal

pub for_each_mut-requires-clause-accepts : goal.for_each_mut-requires-clause-accepts
for_each_mut-requires-clause-accepts g c κs within i p h same = subst (IsReady c.args.queue.now) (sym same) (c.requires i p.now h)

pub returns-then-count-gt0-clause-done : goal.returns-then-count-gt0-clause-done
returns-then-count-gt0-clause-done g c i d h = let k = (c.for_each_mut.ensures i d h).1 in subst (IsDone c.args.queue.now) k.left k.call.0
