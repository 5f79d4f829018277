use Rattle.std.proofs.Common.{◌≡◌, ◌++◌, length, map, take, drop, arith, rules, ap, ◌∙◌}
use Rattle.std.proofs.lemmas.Grind.{common_steps}
use Rattle.std.proofs.lemmas.List.{length-map}
use Rattle.trace_text.proofs.ByName.{ArePlaced-same, names_of-settled}
use Rattle.trace_text.specs.Places.{names_of}
use Rattle.trace_text.specs.Trace.{account_settled}
use Rattle.trace_text.proofs.accounts.Accounts.settle.Goals as goal

pub invariant_of-self : goal.invariant_of-self
invariant_of-self c =
    let count : c.self.inside.items.len ≡ length c.self.inside.items.items = search rules in
    let size : length c.settle_all.new.accounts ≡ length c.deref_mut.result.now = ap length c.settle_all.ensures ∙ length-map c.deref_mut.result.now account_settled in
    let same : length c.deref_mut.result.now ≡ length c.self.inside.items.items = ap length c.deref_mut.ensures.value in
    let all : take c.self.inside.items.len (c.settle_all.new.accounts ++ drop (length c.settle_all.new.accounts) c.self.inside.items.items) ≡ c.settle_all.new.accounts = grind (arith, common_steps) in
    ArePlaced-same _ _ c.self.inside.places (ap names_of (all ∙ c.settle_all.ensures ∙ ap (map account_settled) c.deref_mut.ensures.value) ∙ names_of-settled c.self.inside.items.items) c.self.invariant
