use Rattle.std.proofs.Common.{ℕ, List, sym, ap, subst, ◌∙◌}
use Rattle.trace_text.specs.Trace.{content}
use Rattle.picture_run.specs.Outcome.{IsMissing}
use Rattle.picture_run.specs.Texts.{number_of}
use Rattle.picture_run.specs.declared.words.Picture.{Picture}
use Rattle.picture_run.proofs.texts.picture_text.Goals as goal

pub returns-in-None : goal.returns-in-None
returns-in-None c =
    subst (λ (p : Picture). IsMissing p (content c.args.trace.now)) (sym c.in-Drawing.is)
    (sym (c.in-None.ensures.exact ∙ ap (λ (name : List ℕ). number_of name c.args.trace.now.tenants.items) (c.deref.ensures.value ∙ c.tenant.view_is)))
