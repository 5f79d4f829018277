-- What the queue's book tells, and the order that was written.
use Rattle.std.proofs.Common.{ap, sym, subst, ◌∙◌, arith, length}
use Rattle.std.proofs.lemmas.List.{length-replicate}
use Rattle.tq_cells.specs.declared.entry.Start.{Start}
use Rattle.relay_run.specs.Claim.{IsOrder}
use Rattle.relay_run.proofs.Ordered.{relays_are_ordered}
use Rattle.relay_run.proofs.Handing.{handed, engaged_count, relay_book, tickets_within, relay_order, relay_within}
use Rattle.relay_run.proofs.relaying.relay.Goals as goal

pub take_in-handed-requires-clause-passes : goal.take_in-handed-requires-clause-passes
take_in-handed-requires-clause-passes g c =
    (c.in_ok-room.ensures.passes.0, c.in_ok-room.ensures.passes.1 ∙ sym (engaged_count c.args.workers c.in_ok-all.all.items c.worked.result.items c.in_ok-all.ensures.numbers c.worked.ensures.same))

pub take_in-handed-requires-clause-tickets : goal.take_in-handed-requires-clause-tickets
take_in-handed-requires-clause-tickets g c =
    (c.in_ok-room.ensures.tickets.0, c.in_ok-room.ensures.tickets.1 ∙ sym (engaged_count c.args.workers c.in_ok-all.all.items c.worked.result.items c.in_ok-all.ensures.numbers c.worked.ensures.same))

pub close-book-requires-clause-together : goal.close-book-requires-clause-together
close-book-requires-clause-together g c =
    let all = handed c.in_ok-queue.queue c.args.workers c.args.lines (ap (λ (s : Start). s.seats) c.in_ok-queue.ensures.queue.cells) c.in_ok-all.all.items c.worked.result.items c.take_in-handed.result.passes.items c.take_in-handed.result.tickets.items c.in_ok-all.ensures.numbers c.in_ok-all.ensures.places c.worked.ensures.same c.worked.ensures.done c.take_in-handed.ensures.passes c.take_in-handed.ensures.tickets in
    all.together

pub close-book-requires-clause-all : goal.close-book-requires-clause-all
close-book-requires-clause-all g c =
    let all = handed c.in_ok-queue.queue c.args.workers c.args.lines (ap (λ (s : Start). s.seats) c.in_ok-queue.ensures.queue.cells) c.in_ok-all.all.items c.worked.result.items c.take_in-handed.result.passes.items c.take_in-handed.result.tickets.items c.in_ok-all.ensures.numbers c.in_ok-all.ensures.places c.worked.ensures.same c.worked.ensures.done c.take_in-handed.ensures.passes c.take_in-handed.ensures.tickets in
    all.numbers

pub written-order-requires-clause-workers : goal.written-order-requires-clause-workers
written-order-requires-clause-workers g c =
    let all = handed c.in_ok-queue.queue c.args.workers c.args.lines (ap (λ (s : Start). s.seats) c.in_ok-queue.ensures.queue.cells) c.in_ok-all.all.items c.worked.result.items c.take_in-handed.result.passes.items c.take_in-handed.result.tickets.items c.in_ok-all.ensures.numbers c.in_ok-all.ensures.places c.worked.ensures.same c.worked.ensures.done c.take_in-handed.ensures.passes c.take_in-handed.ensures.tickets in
    omega (arith, all.size)

pub written-order-requires-clause-few : goal.written-order-requires-clause-few
written-order-requires-clause-few g c =
    let all = handed c.in_ok-queue.queue c.args.workers c.args.lines (ap (λ (s : Start). s.seats) c.in_ok-queue.ensures.queue.cells) c.in_ok-all.all.items c.worked.result.items c.take_in-handed.result.passes.items c.take_in-handed.result.tickets.items c.in_ok-all.ensures.numbers c.in_ok-all.ensures.places c.worked.ensures.same c.worked.ensures.done c.take_in-handed.ensures.passes c.take_in-handed.ensures.tickets in
    λ k d l. let few = all.few k d l in omega (arith, few, c.requires.lines)

pub written-order-requires-clause-within : goal.written-order-requires-clause-within
written-order-requires-clause-within g c =
    let all = handed c.in_ok-queue.queue c.args.workers c.args.lines (ap (λ (s : Start). s.seats) c.in_ok-queue.ensures.queue.cells) c.in_ok-all.all.items c.worked.result.items c.take_in-handed.result.passes.items c.take_in-handed.result.tickets.items c.in_ok-all.ensures.numbers c.in_ok-all.ensures.places c.worked.ensures.same c.worked.ensures.done c.take_in-handed.ensures.passes c.take_in-handed.ensures.tickets in
    tickets_within c.in_ok-queue.queue c.args.workers c.args.capacity c.args.lines c.in_ok-queue.ensures.queue.cells c.requires.workers.0 c.take_in-handed.result.passes.items c.take_in-handed.result.tickets.items all c.close-book.result c.close-book.ensures.closed c.close-book.ensures.sound (length c.in_ok-order.order.items) (ap length c.in_ok-order.ensures ∙ length-replicate c.args.lines 0)

pub returns-clause-book : goal.returns-clause-book
returns-clause-book g c =
    let all = handed c.in_ok-queue.queue c.args.workers c.args.lines (ap (λ (s : Start). s.seats) c.in_ok-queue.ensures.queue.cells) c.in_ok-all.all.items c.worked.result.items c.take_in-handed.result.passes.items c.take_in-handed.result.tickets.items c.in_ok-all.ensures.numbers c.in_ok-all.ensures.places c.worked.ensures.same c.worked.ensures.done c.take_in-handed.ensures.passes c.take_in-handed.ensures.tickets in
    relay_book c.in_ok-queue.queue c.args.workers c.args.capacity c.args.lines c.in_ok-queue.ensures.queue.cells c.requires.workers.0 c.take_in-handed.result.passes.items c.take_in-handed.result.tickets.items all c.close-book.result c.close-book.ensures.closed c.close-book.ensures.sound

pub returns-clause-order : goal.returns-clause-order
returns-clause-order g c =
    let all = handed c.in_ok-queue.queue c.args.workers c.args.lines (ap (λ (s : Start). s.seats) c.in_ok-queue.ensures.queue.cells) c.in_ok-all.all.items c.worked.result.items c.take_in-handed.result.passes.items c.take_in-handed.result.tickets.items c.in_ok-all.ensures.numbers c.in_ok-all.ensures.places c.worked.ensures.same c.worked.ensures.done c.take_in-handed.ensures.passes c.take_in-handed.ensures.tickets in
    relay_order c.in_ok-queue.queue c.args.workers c.args.capacity c.args.lines c.in_ok-queue.ensures.queue.cells c.requires.workers.0 c.take_in-handed.result.passes.items c.take_in-handed.result.tickets.items all c.close-book.result c.close-book.ensures.closed c.close-book.ensures.sound c.in_ok-order.order.items c.written-order.result.items (ap length c.in_ok-order.ensures ∙ length-replicate c.args.lines 0) c.written-order.ensures

pub returns-clause-told : goal.returns-clause-told
returns-clause-told g c =
    let all = handed c.in_ok-queue.queue c.args.workers c.args.lines (ap (λ (s : Start). s.seats) c.in_ok-queue.ensures.queue.cells) c.in_ok-all.all.items c.worked.result.items c.take_in-handed.result.passes.items c.take_in-handed.result.tickets.items c.in_ok-all.ensures.numbers c.in_ok-all.ensures.places c.worked.ensures.same c.worked.ensures.done c.take_in-handed.ensures.passes c.take_in-handed.ensures.tickets in
    let book = relay_book c.in_ok-queue.queue c.args.workers c.args.capacity c.args.lines c.in_ok-queue.ensures.queue.cells c.requires.workers.0 c.take_in-handed.result.passes.items c.take_in-handed.result.tickets.items all c.close-book.result c.close-book.ensures.closed c.close-book.ensures.sound in
    let order = relay_order c.in_ok-queue.queue c.args.workers c.args.capacity c.args.lines c.in_ok-queue.ensures.queue.cells c.requires.workers.0 c.take_in-handed.result.passes.items c.take_in-handed.result.tickets.items all c.close-book.result c.close-book.ensures.closed c.close-book.ensures.sound c.in_ok-order.order.items c.written-order.result.items (ap length c.in_ok-order.ensures ∙ length-replicate c.args.lines 0) c.written-order.ensures in
    subst (IsOrder c.args.workers c.args.lines) (sym order) (relays_are_ordered c.args.workers c.args.capacity c.args.lines c.close-book.result book)

pub returns-clause-within : goal.returns-clause-within
returns-clause-within g c =
    let all = handed c.in_ok-queue.queue c.args.workers c.args.lines (ap (λ (s : Start). s.seats) c.in_ok-queue.ensures.queue.cells) c.in_ok-all.all.items c.worked.result.items c.take_in-handed.result.passes.items c.take_in-handed.result.tickets.items c.in_ok-all.ensures.numbers c.in_ok-all.ensures.places c.worked.ensures.same c.worked.ensures.done c.take_in-handed.ensures.passes c.take_in-handed.ensures.tickets in
    relay_within c.in_ok-queue.queue c.args.workers c.args.capacity c.args.lines c.in_ok-queue.ensures.queue.cells c.requires.workers.0 c.take_in-handed.result.passes.items c.take_in-handed.result.tickets.items all c.close-book.result c.close-book.ensures.closed c.close-book.ensures.sound c.in_ok-order.order.items c.written-order.result.items c.in_ok-order.ensures c.written-order.ensures
