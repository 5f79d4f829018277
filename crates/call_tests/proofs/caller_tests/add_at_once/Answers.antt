use denote.Param.Send.{sendable}
use Rattle.fn_callers.proofs.Sent.{caller_sent}
use Rattle.call_tests.proofs.caller_tests.add_at_once.Goals as goal

pub join-requires-send-F : goal.join-requires-send-F
join-requires-send-F g c κs within = search (sendable, caller_sent) depth 12

pub join-requires-send-A : goal.join-requires-send-A
join-requires-send-A g c κs within = search (sendable, caller_sent) depth 12
