use Rattle.std.proofs.Common.{subst}
use Rattle.fn_core.specs.Calls.{IsLegal}
use Rattle.fn_table.specs.Seen.{PassView}
use Rattle.fn_table.proofs.Owes.{owes, step_tells, seat_still}
use Rattle.fn_table.proofs.Small.{adds}
use Rattle.fn_table.proofs.steps.add_as.Goals as goal

pub fetch_add-requires : goal.fetch_add-requires
fetch_add-requires g c =
    let legal = subst (λ (q : PassView). IsLegal q.seen) c.pass.view_is c.pass.invariant.2 in
    owes _ _ _ _ _ _ _ c.pass.view_is c.pass.invariant.0 c.pass.invariant.2 c.requires.may c.requires.here (adds c.args.pass.now g.T.Taken.step c.args.amount legal c.requires.step) (λ k w t. t)

pub returns : goal.returns
returns g c = step_tells _ _ _ _ _ _ _ _ c.pass.view_is c.pass.invariant.0 c.pass.invariant.2 c.fetch_add.ensures.0 c.fetch_add.ensures.2.0

pub invariant_of-pass : goal.invariant_of-pass
invariant_of-pass g c = seat_still c.pass.inside.seat.table_id _ _ _ _ g.T.Taken.step _ c.pass.invariant c.fetch_add.ensures.2.0 c.fetch_add.ensures.2.1
