use Rattle.fn_climb.proofs.Runs.{ran_one}
use Rattle.fn_climb.proofs.leading.leave_led.Goals as goal

pub returns-in-Got : goal.returns-in-Got
returns-in-Got c = ran_one _ c.come_down.ensures
