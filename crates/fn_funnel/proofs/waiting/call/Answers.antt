use Rattle.std.proofs.Common.{arith, ◌<◌}
use Rattle.fn_climb.specs.Course.{pending_of}
use Rattle.fn_funnel.specs.declared.waiting.Way.TheVariants.{Funnel, Direct}
use Rattle.fn_funnel.proofs.Calls.{waited_through, waited_straight}
use Rattle.fn_funnel.proofs.Claims.{made_waited}
use Rattle.fn_funnel.proofs.waiting.call.Goals as goal

pub returns-in-Ok : goal.returns-in-Ok
returns-in-Ok g c =
    let legal = c.number-in_range.ensures.legal in
    let waited = waited_through c.args.pass.now c.args.kind c.args.amount c.await_reply-before.result c.await_reply-before.new.pass legal c.requires.idle (pending_of c.begin_on.new.pass c.in-Ok.course) c.in-Ok.ensures.begun.0 c.await_reply-before.ensures in
    record { made = made_waited c.args.pass.now c.args.kind c.args.amount (record { before = c.await_reply-before.result; way = Funnel }) c.await_reply-before.new.pass legal c.requires.idle waited; way = waited }

pub returns-in-Err : goal.returns-in-Err
returns-in-Err g c =
    let legal = c.number-in_range.ensures.legal in
    let inside : c.args.pass.now.number < c.args.pass.now.seen.start.shape.passes = omega (arith, c.number-in_range.ensures.in_range, c.number-in_range.ensures.number) in
    let waited = waited_straight c.args.pass.now c.args.kind c.args.amount c.go_straight-before.result c.go_straight-before.new.pass legal c.requires.idle inside c.begin_on.new.pass c.in-Err.blocked c.in-Err.ensures.refused c.go_straight-before.ensures.way c.go_straight-before.ensures.called c.go_straight-before.ensures.alone in
    record { made = made_waited c.args.pass.now c.args.kind c.args.amount (record { before = c.go_straight-before.result; way = Direct c.in-Err.blocked }) c.go_straight-before.new.pass legal c.requires.idle waited; way = waited }
