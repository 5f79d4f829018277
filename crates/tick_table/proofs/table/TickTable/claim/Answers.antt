use Rattle.std.proofs.Common.{ap, sym, ◌∙◌, arith}
use Rattle.tick_table.specs.Seen.{TicksView, SeatView}
use Rattle.tick_table.proofs.Ticks.{claim_keeps, claim_tells}
use Rattle.tick_table.proofs.table.TickTable.claim.Goals as goal

pub fetch_max-requires : goal.fetch_max-requires
fetch_max-requires c = (
  ap (λ (p : SeatView). p.table) c.seat.view_is ∙ c.requires.together.0 ∙ sym (ap (λ (t : TicksView). t.table) c.self.view_is),
  omega (arith, c.self.invariant),
  claim_keeps _ _ _ _ _ _ c.seat.invariant.0 c.seat.invariant.2,
)

pub returns : goal.returns
returns c = claim_tells _ _ _ _ _ c.seat.invariant.0 c.fetch_max.ensures.2.0 _ _ _ c.seat.view_is c.fetch_max.ensures.0
