use denote.Param.Send.{IsSend}
use Rattle.funnel_c.specs.contracts.held.Held.{the_row}
use Rattle.funnel_c.proofs.Sent.{held_sent}

pub send : IsSend the_row
send = held_sent
