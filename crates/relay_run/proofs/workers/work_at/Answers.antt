-- A worker's desk and its tickets, once it has worked.
use Rattle.std.proofs.Common.{◌≡◌, ap, sym, subst, ◌∙◌, refl, length, Some, List, ℕ}
use Rattle.std.specs.Vec.{with_items}
use Rattle.std.proofs.lemmas.List.{with_items_is}
use Rattle.relay_run.specs.declared.desks.Desk.{Desk}
use Rattle.relay_run.specs.declared.workers.Worker.{Worker}
use Rattle.relay_run.specs.Work.{Advances, first_lines}
use Rattle.relay_run.proofs.Moving.{is_done}
use Rattle.relay_run.proofs.workers.work_at.Goals as goal

pub work-desk-requires-clause-few : goal.work-desk-requires-clause-few
work-desk-requires-clause-few g c = rw c.deref_mut.ensures.value c.requires.few

pub returns-clause-done : goal.returns-clause-done
returns-clause-done g c =
    let old : Desk = c.requires.desk in
    let worker : Worker = record { share = c.args.worker.now.share; desk = Some c.work-desk.result; tickets = with_items c.args.worker.now.tickets c.work-desk.new.tickets } in
    let same : c.in-Some.desk ≡ old = (let there = c.requires.there in let value = c.in-Some.ensures.value in let is = c.in-Some.is in cc) in
    let refilled : worker.tickets.items ≡ c.work-desk.new.tickets = with_items_is c.args.worker.now.tickets c.work-desk.new.tickets (c.work-desk.auto.tickets ∙ c.deref_mut.ensures.len) in
    let lines : List ℕ = first_lines c.args.worker.now.share.workers c.args.worker.now.share.worker (length c.deref_mut.result.now) in
    is_done c.args.queue.now (length c.deref_mut.result.now) old c.work-desk.result worker refl c.work-desk.ensures.together c.requires.number c.requires.fresh (c.requires.owed ∙ sym (ap length c.deref_mut.ensures.value)) (sym c.work-desk.auto.tickets ∙ ap length (sym refilled))
    (subst (λ (ts : List ℕ). Advances old c.work-desk.result ts lines) (sym refilled) (subst (λ (d : Desk). Advances d c.work-desk.result c.work-desk.new.tickets lines) same c.work-desk.ensures.outcome))
    c.work-desk.ensures.owed
