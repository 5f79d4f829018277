use Rattle.fn_table.proofs.Owes.{owes, step_tells, seat_still}
use Rattle.fn_table.proofs.steps.exchange_as.Goals as goal

pub compare_exchange-requires : goal.compare_exchange-requires
compare_exchange-requires g c = owes _ _ _ _ _ _ _ c.pass.view_is c.pass.invariant.0 c.pass.invariant.2 c.requires.may c.requires.here c.requires.step (λ k w t. t)

pub returns : goal.returns
returns g c = step_tells _ _ _ _ _ _ _ _ c.pass.view_is c.pass.invariant.0 c.pass.invariant.2 c.compare_exchange.ensures.0 c.compare_exchange.ensures.2.0

pub invariant_of-pass : goal.invariant_of-pass
invariant_of-pass g c = seat_still c.pass.inside.seat.table_id _ _ _ _ g.T.Taken.step _ c.pass.invariant c.compare_exchange.ensures.2.0 c.compare_exchange.ensures.2.1
