use Rattle.script_run.proofs.Polling.{IsPolled, fewer-left, polls-end, polls-on}
use Rattle.script_run.proofs.play.poll_call.Goals as goal

pub loop-told-smaller : goal.loop-told-smaller
loop-told-smaller c = fewer-left c.loop-told.core c.step.new.self c.args.pass c.in_ok-told.told c.in-Going.is c.in_ok-told.ensures.taken c.in_ok-told.ensures.follows

pub loop-told-preserved : goal.loop-told-preserved
loop-told-preserved c =
    polls-on c.args.core.now c.loop-told.core c.step.new.self c.args.pass c.in_ok-told.told c.loop-told.invariant c.in-Going.is c.in_ok-told.ensures.taken c.in_ok-told.ensures.told c.in_ok-told.ensures.follows c.in_ok-told.ensures.spends c.in_ok-told.ensures.others

pub returns-in_default : goal.returns-in_default
returns-in_default c =
    let polled : IsPolled c.args.core.now c.step.new.self c.args.pass c.in_ok-told.told =
    polls-end c.args.core.now c.loop-told.core c.step.new.self c.args.pass c.in_ok-told.told c.loop-told.invariant c.in_default.not-Going c.in_ok-told.ensures.taken c.in_ok-told.ensures.told c.in_ok-told.ensures.follows c.in_ok-told.ensures.spends c.in_ok-told.ensures.others in
    record { taken = polled.taken; told = polled.told; leaves = polled.leaves }
