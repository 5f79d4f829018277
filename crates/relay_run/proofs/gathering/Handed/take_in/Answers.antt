-- One more worker has handed in its pass and its tickets.
use Rattle.std.proofs.Common.{◌++◌, ◌∷◌, [], ap, sym, ◌∙◌, arith}
use Rattle.std.proofs.lemmas.List.{map-append}
use Rattle.relay_run.specs.declared.workers.Worker.{Worker}
use Rattle.relay_run.specs.Work.{pass_in}
use Rattle.relay_run.proofs.Moving.{passes_more}
use Rattle.relay_run.proofs.gathering.Handed.take_in.Goals as goal

pub loop-worker-preserved : goal.loop-worker-preserved
loop-worker-preserved c =
    let so_far = c.loop-worker.invariant in
    let worker = c.in-Some.worker in
    let fewer = c.in-Some.ensures.steps.1 in
    record {
      passes = c.push_pass.ensures.items ∙ ap (λ ps. ps ++ pass_in worker.desk) so_far.passes ∙ sym (passes_more c.loop-worker.yielded worker);
      tickets = c.push_reserved.ensures.items ∙ ap (λ ts. ts ++ worker.tickets ∷ []) so_far.tickets ∙ sym (map-append (λ (w : Worker). w.tickets) c.loop-worker.yielded (worker ∷ []));
      room = omega (arith, so_far.room, fewer, c.push_pass.ensures.len, c.push_pass.ensures.capacity);
      tickets_room = omega (arith, so_far.tickets_room, fewer, c.push_reserved.ensures.len, c.push_reserved.ensures.capacity);
    }
