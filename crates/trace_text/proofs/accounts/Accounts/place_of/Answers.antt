use Rattle.std.proofs.Common.{◌∙◌}
use Rattle.trace_text.proofs.ByName.{place_of-named, place_of-names, place_of-within}
use Rattle.trace_text.proofs.accounts.Accounts.place_of.Goals as goal

pub returns-clause-exact : goal.returns-clause-exact
returns-clause-exact c = rw (← c.self.view_is) (c.copied.ensures ∙ c.get.ensures.value ∙ c.self.invariant.0 c.args.name.now ∙ place_of-names c.args.name.now c.self.inside.items.items)

pub returns-clause-within : goal.returns-clause-within
returns-clause-within c = place_of-within c.args.name.now c.args.self.now c.copied.result (returns-clause-exact c)

pub returns-clause-named : goal.returns-clause-named
returns-clause-named c = place_of-named c.args.name.now c.args.self.now c.copied.result (rw c.self.view_is at c.self.invariant.1) (returns-clause-exact c)
