use Rattle.std.proofs.Common.{arith}
use Rattle.fn_core.specs.declared.answer.CoreStep.TheVariants.{Going}
use Rattle.fn_climb.proofs.Runs.{ran_none, ran_one, ran_more, ran_of, ran_polled, falls, ran_falls}
use Rattle.fn_climb.proofs.polling.poll_on.Goals as goal

pub loop-pass-init : goal.loop-pass-init
loop-pass-init c = ran_none c.requires.holds

pub advance-requires-clause-together : goal.advance-requires-clause-together
advance-requires-clause-together c = ran_of c.requires.together c.loop-pass.invariant

pub lead_on-requires-clause-together : goal.lead_on-requires-clause-together
lead_on-requires-clause-together c = ran_of (ran_of c.requires.together c.loop-pass.invariant) (ran_one Going c.in-Going.ensures)

pub loop-pass-smaller : goal.loop-pass-smaller
loop-pass-smaller c =
    let one = falls c.in-Going.ensures.0 in
    let more = ran_falls c.in-Going-lead_on.ensures in
    omega (arith, one, more)

pub loop-pass-preserved : goal.loop-pass-preserved
loop-pass-preserved c = ran_more c.loop-pass.invariant (ran_more (ran_one Going c.in-Going.ensures) c.in-Going-lead_on.ensures)

pub returns-in_default-lead_on : goal.returns-in_default-lead_on
returns-in_default-lead_on c =
    let poll = ran_polled c.lead_on.result c.in_default-lead_on.not-Going (ran_more c.loop-pass.invariant (ran_more (ran_one Going c.in-Going.ensures) c.lead_on.ensures)) in record { polled = poll.0; holds = poll.1 }

pub returns-in_default : goal.returns-in_default
returns-in_default c =
    let poll = ran_polled c.advance.result c.in_default.not-Going (ran_more c.loop-pass.invariant (ran_one c.advance.result c.advance.ensures)) in record { polled = poll.0; holds = poll.1 }
