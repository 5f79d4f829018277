-- Callers may go from one thread to another.
use denote.Param.Send.{IsSend, sendable}
use denote.Param.SendFields.{declared_send, variants_send}
use Rattle.std.specs.contracts.snapshot.Snapshot as snapshot
use Rattle.std.proofs.sync.Arc.TheSendSync as arc_law
use Rattle.std.proofs.alloc.Global.TheSendSync as heap_law
use Rattle.std.proofs.Crossing.{frees}
use Rattle.fn_table.proofs.table.FunnelTable.TheSendSync as table_law
use Rattle.fn_table.specs.contracts.pass.Pass as pass
use Rattle.fn_table.proofs.pass.Pass.TheSendSync as pass_law
use Rattle.fn_climb.specs.contracts.pending.Pending as pending
use Rattle.fn_climb.proofs.pending.Pending.TheSendSync as pending_law
use Rattle.fn_callers.specs.contracts.caller.Waiting as waiting
use Rattle.fn_callers.specs.contracts.caller.Standing as standing
use Rattle.fn_callers.specs.contracts.caller.Caller as caller

pub pass_sent : IsSend pass.the_row
pass_sent = pass_law.the_send

pub pending_sent : IsSend pending.the_row
pending_sent = pending_law.the_send

pub snapshot_sent : IsSend (snapshot.the_row pass.the_row)
snapshot_sent = search sendable depth 12

pub waiting_sent : IsSend waiting.the_row
waiting_sent = search (sendable, pending_sent, snapshot_sent) depth 12

pub standing_sent : IsSend standing.the_row
standing_sent = search (sendable, variants_send, pass_sent, waiting_sent) depth 12

pub caller_sent : IsSend caller.the_row
caller_sent = search (sendable, declared_send, snapshot_sent, standing_sent, arc_law.the_send, table_law.the_send, table_law.the_sync, heap_law.the_send, heap_law.the_sync, frees) depth 12
