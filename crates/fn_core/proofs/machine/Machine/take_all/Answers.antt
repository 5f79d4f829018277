use Rattle.std.proofs.Common.{◌++◌, take, ◌∙◌}
use Rattle.fn_core.proofs.Pushed.{may_next, stands_more}
use Rattle.fn_core.proofs.machine.Machine.take_all.Goals as goal

pub take-requires : goal.take-requires
take-requires c =
    let log = c.requires.0 in
    let stands = c.loop-event.invariant.1 log c.requires.1 c.requires.2 in
    (log ++ take c.loop-event.event-index c.args.events.now, stands, may_next c.args.self.now c.loop-event.self log c.args.events.now c.loop-event.event-index _ c.loop-event.invariant.0 stands c.requires.2 c.loop-event-test.true)

pub loop-event-preserved : goal.loop-event-preserved
loop-event-preserved c = (
  c.take.ensures.start ∙ c.loop-event.invariant.0,
  λ log stands legal. stands_more c.args.self.now c.loop-event.self log c.args.events.now c.loop-event.event-index _ c.loop-event.invariant.0 (c.loop-event.invariant.1 log stands legal) legal c.loop-event-test.true c.take.new.self c.take.result c.take.ensures.start c.take.ensures.takes,
)
