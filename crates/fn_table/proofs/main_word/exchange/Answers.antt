use Rattle.std.proofs.Common.{sym, ◌∙◌, subst}
use Rattle.fn_table.specs.Seen.{PassView, own_of, HasLoaded}
use Rattle.fn_table.proofs.Keeping.{keeps_exchange, won_left, lost_left}
use Rattle.fn_table.proofs.main_word.exchange.Goals as goal

pub invariant_of-pass : goal.invariant_of-pass
invariant_of-pass c =
    let p = c.pass.inside.caller in
    let k = c.pass.invariant in
    let loaded = subst (λ (x : PassView). HasLoaded c.args.loaded (own_of x).caller.position) (sym c.pass.view_is) c.requires.loaded in
    keeps_exchange p _ c.args.kind c.args.amount _ _ _ (k.left ∙ lost_left p.number c.args.kind c.args.amount _ c.args.loaded (own_of p) _ loaded c.if-found-loaded.true) k c.exchange-found.ensures

pub invariant_of-pass-2 : goal.invariant_of-pass-2
invariant_of-pass-2 c =
    let p = c.pass.inside.caller in
    let k = c.pass.invariant in
    let spent = c.spent_by_exchange-spent in
    let loaded = subst (λ (x : PassView). HasLoaded c.args.loaded (own_of x).caller.position) (sym c.pass.view_is) c.requires.loaded in
    keeps_exchange p _ c.args.kind c.args.amount _ _ _ (won_left p.number c.args.kind c.args.amount _ c.args.loaded spent.result _ (own_of p) _ loaded c.if-found-loaded.false (λ e. spent.ensures.direct (k.calling ∙ e)) (λ e. spent.ensures.batch (k.calling ∙ e)) k.left) k c.exchange-found.ensures
