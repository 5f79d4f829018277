use Rattle.std.proofs.Common.{◌≡◌, ◌<◌, ◌≤◌, ◌++◌, ◌∷◌, [], ◌∙◌, ap, sym, subst, arith, ℕ, length, get_or, List, Some, None}
use Rattle.std.specs.Vec.{vec_capacity}
use Rattle.fn_model.specs.declared.Kind.{Kind}
use Rattle.fn_model.specs.declared.Kind.TheVariants.{Read}
use Rattle.fn_table.specs.Seen.{IsOf}
use Rattle.fn_rounds.specs.Views.{LaneView}
use Rattle.fn_rounds.specs.Lanes.{MayTurn, CallerWent, order_at}
use Rattle.fn_rounds.specs.Standing.{Stands}
use Rattle.fn_rounds.proofs.Turned.{may_turn, stands_on, stands_silent}
use Rattle.fn_rounds.proofs.between.Running.turn.Goals as goal

pub take_turn-requires : goal.take_turn-requires
take_turn-requires c =
    let i = c.self.inside in
    let at : c.len-3.result ≡ length i.replies.items = omega (arith, c.len-3.ensures, i.replies.ok.0) in
    let some : length i.replies.items < length i.orders = omega (arith, c.if-len.false, c.len.ensures, c.len-2.ensures, i.replies.ok.0) in
    let order : c.order-kind.result ≡ order_at i.orders i.replies.items = c.order-kind.ensures ∙ ap (λ (n : ℕ). get_or i.orders n (Read, 0)) at in
    let together : IsOf c.args.table.now i.given.value = subst (λ (v : LaneView). IsOf c.args.table.now v.given) (sym c.self.view_is) c.requires in
    subst (λ (o : Kind × ℕ). MayTurn c.args.table.now o.0 o.1 i.caller) (sym order) (may_turn i.given.value i.orders i.replies.items some c.args.table.now together i.caller c.self.invariant.1)

pub invariant_of-self : goal.invariant_of-self
invariant_of-self c =
    let i = c.self.inside in
    let at : c.len-3.result ≡ length i.replies.items = omega (arith, c.len-3.ensures, i.replies.ok.0) in
    let some : length i.replies.items < length i.orders = omega (arith, c.if-len.false, c.len.ensures, c.len-2.ensures, i.replies.ok.0) in
    let order : c.order-kind.result ≡ order_at i.orders i.replies.items = c.order-kind.ensures ∙ ap (λ (n : ℕ). get_or i.orders n (Read, 0)) at in
    let went = subst (λ (o : Kind × ℕ). CallerWent o.0 o.1 i.caller None c.take_turn.new.caller) order c.in-None.ensures in
    (c.self.invariant.0, stands_silent i.given.value i.orders i.replies.items some i.caller c.take_turn.new.caller c.self.invariant.1 went)

pub invariant_of-self-in-Ok : goal.invariant_of-self-in-Ok
invariant_of-self-in-Ok c =
    let i = c.self.inside in
    let at : c.len-3.result ≡ length i.replies.items = omega (arith, c.len-3.ensures, i.replies.ok.0) in
    let some : length i.replies.items < length i.orders = omega (arith, c.if-len.false, c.len.ensures, c.len-2.ensures, i.replies.ok.0) in
    let order : c.order-kind.result ≡ order_at i.orders i.replies.items = c.order-kind.ensures ∙ ap (λ (n : ℕ). get_or i.orders n (Read, 0)) at in
    let went = subst (λ (o : Kind × ℕ). CallerWent o.0 o.1 i.caller (Some c.in-Some.reply) c.take_turn.new.caller) order c.in-Some.ensures in
    let room : length i.orders ≤ vec_capacity i.replies = c.self.invariant.0 in
    let items : c.push.new.self.items ≡ i.replies.items ++ c.in-Some.reply ∷ [] = c.in-Ok.ensures.items in (
      omega (arith, room, c.push.ensures.capacity),
      subst (λ (ns : List ℕ). Stands i.given.value i.orders ns c.take_turn.new.caller) (sym items) (stands_on i.given.value i.orders i.replies.items some i.caller (Some c.in-Some.reply) c.take_turn.new.caller c.self.invariant.1 went),
    )
