use Rattle.std.proofs.Common.{◌<◌, ◌++◌, ◌∷◌, [], ap, ◌∙◌, arith, length}
use Rattle.fn_rounds.specs.declared.lanes.Lane.{Lane}
use Rattle.fn_rounds.proofs.Dealt.{dealt_more}
use Rattle.fn_rounds.proofs.LineOrders.{no_line}
use Rattle.fn_rounds.proofs.dealing.lanes_for.Goals as goal

pub loop-line-preserved : goal.loop-line-preserved
loop-line-preserved c =
    let i = c.loop-line.line-index in
    let within : i < length c.args.lines.now = omega arith in
    let old : Lane = c.index_mut.result.now in
    dealt_more c.args.lines.now i c.args.passes.items c.loop-line.lanes.items old c.add_order.new.lane within c.requires.numbers (c.requires.there i no_line within) c.loop-line.invariant c.index_mut.ensures.value
    (c.in_ok-add_order.ensures ∙ ap (λ order. let lane : Lane = record old { orders = old.orders ++ order ∷ [] } in lane) c.order_of.ensures)
