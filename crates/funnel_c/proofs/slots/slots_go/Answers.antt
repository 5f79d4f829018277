use denote.Param.Send.{sendable}
use Rattle.funnel_c.proofs.Sent.{slot_sent}
use Rattle.funnel_c.proofs.slots.slots_go.Goals as goal

pub goes-requires-send-T : goal.goes-requires-send-T
goes-requires-send-T c κs = search (sendable, slot_sent) depth 12
