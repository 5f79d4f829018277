use Rattle.std.proofs.Common.{rules, ◌≡◌, ◌∙◌, ap, sym}
use Rattle.std.proofs.lemmas.List.{at_drop_all}
use Rattle.fn_rounds.specs.Script.{other_order}
use Rattle.fn_rounds.proofs.Changes.{no_other-all}
use Rattle.fn_rounds.proofs.orders.other_order.Goals as goal

pub returns-clause-changes : goal.returns-clause-changes
returns-clause-changes c =
    let lines : c.deref-line-items.result.now ≡ c.args.script.now.lines = search rules in
    no_other-all c.args.script.now.lines (ap other_order (sym lines) ∙ c.loop-line.invariant ∙ at_drop_all other_order _ _ c.loop-line-test.false)
