use Rattle.std.proofs.Common.{◌≡◌, ◌∙◌, subst}
use Rattle.fn_model.specs.Integer.{value}
use Rattle.fn_core.specs.Calls.{CoreLog, calls_in}
use Rattle.fn_core.proofs.Laws.{main_is_value}
use Rattle.fn_core.proofs.funnel.Core.main.Goals as goal

pub returns-clause-value : goal.returns-clause-value
returns-clause-value c =
    let stands = c.self.invariant in
    let law = main_is_value c.self.inside.machine.start c.self.inside.log stands.start_ok stands.legal in
    subst (λ (v : CoreLog). c.self.inside.machine.main ≡ value v.start.cap v.start.opening (calls_in v)) c.self.view_is (stands.fields.main_is ∙ law.0)
