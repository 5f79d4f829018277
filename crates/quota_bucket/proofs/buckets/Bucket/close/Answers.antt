-- The parts of the desks are ready for both closings.
use Rattle.quota_bucket.proofs.Gathered.{few_desks, ready_desks, closed_by}
use Rattle.quota_bucket.proofs.buckets.Bucket.close.Goals as goal

pub part-parts-requires : goal.part-parts-requires
part-parts-requires c = few_desks _ _ c.self.view_is _ c.self.invariant c.requires.together c.requires.all

pub close-requires-clause-together : goal.close-requires-clause-together
close-requires-clause-together c = (ready_desks _ _ c.self.view_is _ c.self.invariant c.requires.together c.requires.all _ c.part-parts.ensures).passes_of

pub close-requires-clause-all : goal.close-requires-clause-all
close-requires-clause-all c = (ready_desks _ _ c.self.view_is _ c.self.invariant c.requires.together c.requires.all _ c.part-parts.ensures).passes_all

pub close-requires-clause-idle : goal.close-requires-clause-idle
close-requires-clause-idle c = (ready_desks _ _ c.self.view_is _ c.self.invariant c.requires.together c.requires.all _ c.part-parts.ensures).rest

pub close-requires-2-clause-together : goal.close-requires-2-clause-together
close-requires-2-clause-together c = (ready_desks _ _ c.self.view_is _ c.self.invariant c.requires.together c.requires.all _ c.part-parts.ensures).seats_of

pub close-requires-2-clause-all : goal.close-requires-2-clause-all
close-requires-2-clause-all c = (ready_desks _ _ c.self.view_is _ c.self.invariant c.requires.together c.requires.all _ c.part-parts.ensures).seats_all

pub returns-clause-closed : goal.returns-clause-closed
returns-clause-closed c =
    closed_by _ _ c.self.view_is c.args.desks.items (record { tokens = c.close.result; ticks = c.close-2.result }) c.part-parts.result c.self.invariant c.requires.together c.requires.all c.part-parts.ensures
    c.close.ensures.start c.close-2.ensures.start c.close.ensures.passes c.close-2.ensures.seats c.close.ensures.calls
