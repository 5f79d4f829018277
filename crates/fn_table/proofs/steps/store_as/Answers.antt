use Rattle.fn_table.proofs.Owes.{owes, took_some, step_tells, seat_still}
use Rattle.fn_table.proofs.steps.store_as.Goals as goal

pub store-requires : goal.store-requires
store-requires g c = owes _ _ _ _ _ _ _ c.pass.view_is c.pass.invariant.0 c.pass.invariant.2 c.requires.may c.requires.here c.requires.step (λ k w t. took_some k t)

pub returns : goal.returns
returns g c = (c.store.ensures.2.0.0, step_tells _ _ _ _ _ _ _ _ c.pass.view_is c.pass.invariant.0 c.pass.invariant.2 c.store.ensures.0 c.store.ensures.2.0.1)

pub invariant_of-pass : goal.invariant_of-pass
invariant_of-pass g c = seat_still c.pass.inside.seat.table_id _ _ _ _ g.T.Taken.step _ c.pass.invariant c.store.ensures.2.0.1 c.store.ensures.2.1
