use Rattle.std.proofs.Common.{◌≡◌, Some, sym, ap, ◌∙◌}
use Rattle.fn_model.specs.declared.Kind.TheVariants.{Sub}
use Rattle.fn_table.specs.Claims.{MadeNone}
use Rattle.fn_callers.specs.Callers.{CallerView}
use Rattle.funnel_c.specs.Slots.{caller_in}
use Rattle.funnel_c.proofs.InSlots.{in_both, lost_none}
use Rattle.funnel_c.proofs.wq_sub.Goals as goal

pub returns-clause-lost : goal.returns-clause-lost
returns-clause-lost c = λ lost.
    let old : CallerView = c.deref_mut.result.now in
    let new : CallerView = c.subtract-answer.new.self in
    let was : caller_in c.args.slot.now ≡ Some old = ap caller_in (sym c.replace.ensures.value) ∙ c.in-Some.ensures ∙ ap Some (sym c.deref_mut.ensures.value) in
    in_both (λ o n. MadeNone o.pass n.pass) (caller_in c.args.slot.now) (caller_in c.of.result) old new was c.of.ensures (lost_none old Sub c.args.amount c.subtract-answer.result new (sym c.tell.ensures.status ∙ lost) c.subtract-answer.ensures.told)
