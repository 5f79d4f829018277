use Rattle.std.proofs.Common.{◌≡◌, ◌∙◌, ℕ, length, ap, subst}
use Rattle.relay_run.specs.Relay.{IsRelay, order_of, text_from}
use Rattle.tool_run.proofs.telling.relay_lines.Goals as goal

pub returns : goal.returns
returns g c =
    let lines = c.args.lines.now in
    let book = c.in_ok-order.field-0.book in
    let count : c.count-count.result ≡ length c.args.lines.now = c.count-count.ensures in
    let P : ℕ → Type 0 = λ n. IsRelay c.args.workers c.args.capacity n c.in_ok-order.field-0.book in
    let text = c.in_ok-text.ensures ∙ ap (text_from 0 lines) (c.deref.ensures.value ∙ c.in_ok-order.ensures.order ∙ ap (λ n. order_of n book) count) in
    record { book = book; relayed = subst P count c.in_ok-order.ensures.book; sound = c.in_ok-order.ensures.sound; tells = text; back = c.queue.ensures }
