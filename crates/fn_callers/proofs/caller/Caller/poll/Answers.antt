use Rattle.std.proofs.Common.{◌≡◌, Err, refl, sym, ap, ◌∙◌, subst}
use Rattle.std.specs.Arc.{arc_value}
use Rattle.fn_core.specs.declared.answer.CoreStep.TheVariants.{NotYet}
use Rattle.fn_callers.specs.Callers.{CallerView}
use Rattle.fn_callers.specs.declared.caller.Reason.TheVariants as why
use Rattle.fn_callers.specs.declared.caller.Standing.TheVariants.{Waits}
use Rattle.fn_callers.specs.Told.{PollTold}
use Rattle.fn_callers.proofs.Stands.{view_of, stands_as, still_waits}
use Rattle.fn_callers.proofs.caller.Caller.poll.Goals as goal

pub returns-in-Ok-clause-made : goal.returns-in-Ok-clause-made
returns-in-Ok-clause-made c =
    let t = arc_value c.self.inside.table in
    let was : c.args.self.now ≡ view_of t c.self.inside.first.value (Waits c.in-Waits.waiting) = stands_as t c.self.inside.first.value c.self.inside.standing (Waits c.in-Waits.waiting) (sym c.replace.ensures.value ∙ c.in-Waits.is) c.args.self.now c.self.view_is in
    (record { given = c.in-Waits.waiting.given.value; kind = c.in-Waits.waiting.kind; amount = c.in-Waits.waiting.amount }, ap (λ (v : CallerView). v.call) was, c.in-Ok.ensures.made)

pub returns-in-Err-clause-told : goal.returns-in-Err-clause-told
returns-in-Err-clause-told c =
    let t = arc_value c.self.inside.table in
    let first = c.self.inside.first.value in
    let was : c.args.self.now ≡ view_of t first (Waits c.in-Waits.waiting) = stands_as t first c.self.inside.standing (Waits c.in-Waits.waiting) (sym c.replace.ensures.value ∙ c.in-Waits.is) c.args.self.now c.self.view_is in
    subst (λ (v : CallerView). PollTold v (Err why.NotYet) (view_of t first (Waits c.in-Err.waiting))) (sym was)
    (refl, still_waits t first c.in-Waits.waiting c.in-Err.waiting (NotYet c.in-Err.ensures.in_vain.0) c.in-Err.ensures.given c.in-Err.ensures.in_vain.1.0 c.in-Err.ensures.in_vain.1.1)
