-- Slots may go from one thread to another, since callers may.
use base.Fraction.{full_share}
use base.Shift.{Keyless}
use denote.RattleType.{RattleType}
use denote.RawPtr.{Ptr, block_ptr, null_ptr, lies_at}
use denote.Param.Send.{IsSend, sendable, part_keyless}
use denote.Param.SendFields.{declared_send, owner_send}
use Rattle.std.proofs.Common.{Option, Some, None}
use Rattle.std.proofs.Crossing.{frees}
use Rattle.fn_callers.specs.Callers.{CallerView}
use Rattle.fn_callers.specs.contracts.caller.Caller as caller
use Rattle.fn_callers.proofs.Sent.{caller_sent}
use Rattle.funnel_c.specs.Held.{owns_held}
use Rattle.funnel_c.specs.contracts.held.Held as held
use Rattle.funnel_c.specs.contracts.slots.Slot as slot

lies : (R : RattleType) → IsSend R → (p : Ptr) (x : R.Denot) → Keyless (lies_at R full_share p x)
lies R s (block_ptr b o) x = part_keyless R s full_share x b o
lies R s null_ptr x = tt

-- what such a pointer owns
owned : (p : Ptr) (value : Option CallerView) → Keyless (owns_held caller.the_row p value)
owned p None = tt
owned p (Some x) = (lies caller.the_row caller_sent p x, frees.frees _ _ p)

pub held_sent : IsSend held.the_row
held_sent = owner_send held.the_type (search sendable) (λ d. owned d.at d.value) (λ k d w. tt)

pub slot_sent : IsSend slot.the_row
slot_sent = search (sendable, declared_send, held_sent) depth 12
