-- The passes have their whole allowances, since the passes of each funnel have.
use Rattle.tq_queue.specs.Fours.{pick}
use Rattle.tq_queue.specs.Seen.{QueueView}
use Rattle.tq_queue.proofs.Dealing.{whole_all}
use Rattle.tq_queue.proofs.queues.TicketQueue.open.Goals as goal

pub returns-clause-whole : goal.returns-clause-whole
returns-clause-whole g c =
    let q : QueueView = record { cells = c.in_ok-cells.cells; funnels = c.in_ok-funnels.funnels } in
    whole_all q c.args.capacity c.args.passes (record { cells = c.in_ok-cells.ensures.cells; funnels = c.in_ok-funnels.ensures.funnels }) (λ w. (pick w c.in_ok-funnels.funnel_passes).items) c.in_ok-funnels.ensures.passes c.in_ok-all.all.items c.in_ok-all.ensures
