-- The workers stand in the vector as they stood in its slice.
use Rattle.std.proofs.Common.{All, sym, subst, ◌∙◌, arith}
use Rattle.std.proofs.lemmas.List.{with_items_is}
use Rattle.relay_run.specs.Work.{IsDone}
use Rattle.relay_run.proofs.workers.worked.Goals as goal

pub returns-clause-done : goal.returns-clause-done
returns-clause-done g c =
    subst (All (IsDone c.args.queue.now)) (sym (with_items_is c.args.all c.work_all.new.all (c.work_all.auto.all ∙ c.deref_mut.ensures.len)))
    (λ k d l. c.work_all.ensures.done k d (omega (arith, l, c.work_all.auto.all)))
