use Rattle.std.proofs.Common.{sym, subst}
use Rattle.fn_core.specs.declared.Event.{Event}
use Rattle.fn_core.specs.Machine.{Allowed}
use Rattle.fn_core.specs.Fields.{Stands}
use Rattle.fn_core.specs.Calls.{CoreLog, state_in}
use Rattle.fn_core.proofs.Pushed.{stands_next}
use Rattle.fn_core.proofs.funnel.Core.apply.Goals as goal

pub invariant_of-self : goal.invariant_of-self
invariant_of-self c =
    let event : Event = c.args.event.now in
    subst (Stands c.take-answer.new.self) (sym c.push.ensures)
    (stands_next c.self.inside.machine c.take-answer.new.self c.self.inside.log event c.take-answer.result c.self.invariant
    (subst (λ (v : CoreLog). Allowed v.start (state_in v) event) (sym c.self.view_is) c.requires) c.take-answer.ensures.start c.take-answer.ensures.takes)
