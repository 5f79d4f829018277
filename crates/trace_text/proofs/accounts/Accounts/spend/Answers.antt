use Rattle.std.proofs.Common.{ap, ◌∙◌}
use Rattle.trace_text.proofs.ByName.{ArePlaced-same, names_of-spent}
use Rattle.trace_text.proofs.accounts.Accounts.spend.Goals as goal

pub invariant_of-self : goal.invariant_of-self
invariant_of-self c =
    ArePlaced-same _ _ c.self.inside.places (names_of-spent c.self.inside.items.items c.args.place c.index_mut.result.now c.spend.new.account (c.spend.ensures.tenant ∙ ap (λ account. account.tenant) c.index_mut.ensures.value)) c.self.invariant
