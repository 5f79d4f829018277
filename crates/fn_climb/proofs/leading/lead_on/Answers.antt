use Rattle.fn_climb.proofs.Runs.{ran_more, ran_of}
use Rattle.fn_climb.proofs.leading.lead_on.Goals as goal

pub publish_based-requires-clause-together : goal.publish_based-requires-clause-together
publish_based-requires-clause-together c = ran_of c.requires.together c.close_led.ensures

pub leave_led-requires-clause-together : goal.leave_led-requires-clause-together
leave_led-requires-clause-together c = ran_of (ran_of c.requires.together c.close_led.ensures) c.publish_based.ensures

pub returns : goal.returns
returns c = ran_more c.close_led.ensures (ran_more c.publish_based.ensures c.leave_led.ensures)
