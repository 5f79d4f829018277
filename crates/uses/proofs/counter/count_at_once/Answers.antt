-- The book has all that both have counted.
use Rattle.std.proofs.Common.{◌≡◌, ap, arith}
use Rattle.fn_core.specs.declared.Start.{Start}
use Rattle.fn_table.specs.Seen.{TableView}
use Rattle.uses.proofs.Totals.{count_is}
use Rattle.uses.proofs.counter.count_at_once.Goals as goal

pub returns-clause-counted : goal.returns-clause-counted
returns-clause-counted g c =
    let t : TableView = c.in_ok-funnel.funnel in
    let opening : t.start.opening ≡ 0 = ap (λ (s : Start). s.opening) c.in_ok-funnel.ensures.funnel in
    let cap : t.start.cap ≡ 9223372036854775807 = ap (λ (s : Start). s.cap) c.in_ok-funnel.ensures.funnel in
    let total = count_is t c.both-one.result.0 c.both-one.result.1 c.join-one.result.0 c.join-one.result.1 c.args.first c.args.second c.in_ok-book.book c.in_ok-book.ensures c.join-one.ensures.first c.join-one.ensures.second (omega (arith, opening, cap, c.requires)) in
    omega (arith, c.value.ensures, total, opening)
