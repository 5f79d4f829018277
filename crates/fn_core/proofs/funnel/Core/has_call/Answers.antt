use Rattle.std.proofs.Common.{◌≡◌, inl, inr, sym, ◌∙◌, ap}
use Rattle.std.proofs.lemmas.Bool.{false≢true}
use Rattle.fn_model.specs.declared.Kind.TheVariants.{Add, Sub}
use Rattle.fn_core.specs.Batches.{has_come}
use Rattle.fn_core.specs.State.{stage}
use Rattle.fn_core.specs.Calls.{state_in}
use Rattle.fn_core.proofs.Called.{call_kinds}
use Rattle.fn_core.proofs.funnel.Core.has_call.Goals as goal

pub returns-else-has_come : goal.returns-else-has_come
returns-else-has_come c =
    let core = c.args.self.now in
    let adds : c.has_come.result ≡ has_come (stage core.start (state_in core) Add 1 c.args.pass) = c.has_come.ensures ∙ ap has_come c.stage.ensures.exact in
    let subs : c.has_come-else-has_come.result ≡ has_come (stage core.start (state_in core) Sub 1 c.args.pass) = c.has_come-else-has_come.ensures ∙ ap has_come c.stage-else-has_come.ensures.exact in (
      λ came. (Sub, sym subs ∙ came),
      λ call. elim (call_kinds core c.stage.ensures.legal c.args.pass call) [
        | inl add ↦ absurd (false≢true (sym c.if-has_come.false ∙ adds ∙ add))
        | inr sub ↦ subs ∙ sub
      ],
    )
