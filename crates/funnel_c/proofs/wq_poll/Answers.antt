use Rattle.std.proofs.Common.{◌≡◌, Some, sym, ap, ◌∙◌}
use Rattle.fn_callers.specs.Callers.{CallerView}
use Rattle.fn_callers.specs.Told.{HasMade}
use Rattle.funnel_c.specs.Slots.{caller_in}
use Rattle.funnel_c.specs.Told.{Polls}
use Rattle.funnel_c.proofs.InSlots.{in_both, call_told, poll_made}
use Rattle.funnel_c.proofs.wq_poll.Goals as goal

pub returns-clause-told : goal.returns-clause-told
returns-clause-told c =
    let old : CallerView = c.deref_mut.result.now in
    let new : CallerView = c.poll-answer.new.self in
    let was : caller_in c.args.slot.now ≡ Some old = ap caller_in (sym c.replace.ensures.value) ∙ c.in-Some.ensures ∙ ap Some (sym c.deref_mut.ensures.value) in
    let tells : Polls old c.poll-answer.result new = record { told = c.poll-answer.ensures.told; made = c.poll-answer.ensures.made; table = c.poll-answer.ensures.table; way = c.poll-answer.ensures.way } in
    call_told Polls (caller_in c.args.slot.now) (caller_in c.of.result) old new c.poll-answer.result c.tell.result c.args.before.now c.tell.new.reply was c.of.ensures c.tell.ensures.status c.tell.ensures.written tells

pub returns-clause-made : goal.returns-clause-made
returns-clause-made c = λ ok.
    let old : CallerView = c.deref_mut.result.now in
    let new : CallerView = c.poll-answer.new.self in
    let was : caller_in c.args.slot.now ≡ Some old = ap caller_in (sym c.replace.ensures.value) ∙ c.in-Some.ensures ∙ ap Some (sym c.deref_mut.ensures.value) in
    in_both (λ o n. HasMade o c.tell.new.reply n) (caller_in c.args.slot.now) (caller_in c.of.result) old new was c.of.ensures (poll_made old c.poll-answer.result new c.args.before.now c.tell.new.reply (sym c.tell.ensures.status ∙ ok) c.tell.ensures.written c.poll-answer.ensures.made)
