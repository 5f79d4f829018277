use denote.Param.Send.{sendable}
use Rattle.fn_callers.proofs.Sent.{caller_sent}
use Rattle.fn_callers.proofs.caller.callers_go.Goals as goal

pub goes-requires-send-T : goal.goes-requires-send-T
goes-requires-send-T c κs = search (sendable, caller_sent) depth 12
