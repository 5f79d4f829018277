-- The parts of the passes are ready for each closing, and the closed queue is sound.
use Rattle.std.proofs.Common.{List, subst, sym}
use Rattle.std.specs.Prelude.{All}
use Rattle.tq_cells.specs.Seen as cells
use Rattle.tq_queue.specs.Seen.{QueueView, BookView, IsOf, AreAll}
use Rattle.tq_queue.proofs.Ready.{ready, few_passes, has_closed}
use Rattle.tq_queue.proofs.Sound.{sound}
use Rattle.tq_queue.proofs.queues.TicketQueue.close.Goals as goal

pub part-parts-requires : goal.part-parts-requires
part-parts-requires g c =
    let q : QueueView = record { cells = c.self.inside.cells; funnels = c.self.inside.funnels } in
    few_passes q c.args.passes.items (subst (λ (x : QueueView). AreAll x c.args.passes.items) (sym c.self.view_is) c.requires.all) c.self.invariant

pub close-requires-clause-together : goal.close-requires-clause-together
close-requires-clause-together g c =
    let q : QueueView = record { cells = c.self.inside.cells; funnels = c.self.inside.funnels } in
    (ready q c.args.passes.items c.self.invariant (subst (λ (x : QueueView). AreAll x c.args.passes.items) (sym c.self.view_is) c.requires.all) (subst (λ (x : QueueView). All (IsOf x) c.args.passes.items) (sym c.self.view_is) c.requires.together) c.part-parts.ensures.kept c.part-parts.result c.part-parts.ensures.parts).seats.together

pub close-requires-clause-all : goal.close-requires-clause-all
close-requires-clause-all g c =
    let q : QueueView = record { cells = c.self.inside.cells; funnels = c.self.inside.funnels } in
    (ready q c.args.passes.items c.self.invariant (subst (λ (x : QueueView). AreAll x c.args.passes.items) (sym c.self.view_is) c.requires.all) (subst (λ (x : QueueView). All (IsOf x) c.args.passes.items) (sym c.self.view_is) c.requires.together) c.part-parts.ensures.kept c.part-parts.result c.part-parts.ensures.parts).seats.all

pub close_each-requires : goal.close_each-requires
close_each-requires g c =
    let q : QueueView = record { cells = c.self.inside.cells; funnels = c.self.inside.funnels } in
    (ready q c.args.passes.items c.self.invariant (subst (λ (x : QueueView). AreAll x c.args.passes.items) (sym c.self.view_is) c.requires.all) (subst (λ (x : QueueView). All (IsOf x) c.args.passes.items) (sym c.self.view_is) c.requires.together) c.part-parts.ensures.kept c.part-parts.result c.part-parts.ensures.parts).passes

pub returns-clause-sound : goal.returns-clause-sound
returns-clause-sound g c =
    let q : QueueView = record { cells = c.self.inside.cells; funnels = c.self.inside.funnels } in
    let b : BookView g.row.T.Denot = record { cells = c.close.result; funnels = c.close_each.result } in
    let parts = c.part-parts.ensures.parts in
    sound q c.args.passes.items b c.self.invariant (subst (λ (x : QueueView). AreAll x c.args.passes.items) (sym c.self.view_is) c.requires.all) (subst (λ (x : QueueView). All (IsOf x) c.args.passes.items) (sym c.self.view_is) c.requires.together) c.part-parts.ensures.kept
    (record {
      start = c.close.ensures.start;
      cells = subst (λ (xs : List (cells.SeatView g.row.T.Denot)). cells.IsClosed xs c.close.result) parts.seats c.close.ensures.seats;
      funnels = has_closed q c.args.passes.items c.part-parts.result c.close_each.result parts c.close_each.ensures;
    })
