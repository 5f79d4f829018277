use Rattle.std.proofs.Common.{◌≡◌, Some, sym, ap, ◌∙◌}
use Rattle.fn_table.specs.Claims.{MadeNone}
use Rattle.fn_callers.specs.Callers.{CallerView, IsFree}
use Rattle.funnel_c.specs.Slots.{caller_in}
use Rattle.funnel_c.specs.Told.{kind_of}
use Rattle.funnel_c.proofs.InSlots.{in_both, no_row_none}
use Rattle.funnel_c.proofs.wq_begin.Goals as goal

pub returns-clause-no_row : goal.returns-clause-no_row
returns-clause-no_row c = λ none.
    let old : CallerView = c.deref_mut.result.now in
    let new : CallerView = c.begin-answer.new.caller in
    let was : caller_in c.args.slot.now ≡ Some old = ap caller_in (sym c.replace.ensures.value) ∙ c.in-Some.ensures ∙ ap Some (sym c.deref_mut.ensures.value) in
    in_both (λ o n. IsFree n × MadeNone o.pass n.pass) (caller_in c.args.slot.now) (caller_in c.of.result) old new was c.of.ensures (no_row_none old (kind_of c.args.subtracts) c.args.amount c.begin-answer.result new (sym c.tell_begun.ensures ∙ none) c.begin-answer.ensures.told)
