-- What both took has come back.
use Rattle.std.proofs.Common.{◌≡◌, ap, arith}
use Rattle.fn_core.specs.declared.Start.{Start}
use Rattle.fn_table.specs.Seen.{TableView}
use Rattle.uses.proofs.Totals.{quota_is_whole}
use Rattle.uses.proofs.quota.lend_at_once.Goals as goal

pub returns-clause-whole : goal.returns-clause-whole
returns-clause-whole g c =
    let t : TableView = c.in_ok-funnel.funnel in
    let opening : t.start.opening ≡ c.args.quota = ap (λ (s : Start). s.opening) c.in_ok-funnel.ensures.funnel in
    let cap : t.start.cap ≡ c.args.quota = ap (λ (s : Start). s.cap) c.in_ok-funnel.ensures.funnel in
    let left = quota_is_whole t c.both-one.result.0 c.both-one.result.1 c.join-one.result.0.0 c.join-one.result.1.0 c.in_ok-close.field-0 c.in_ok-close.ensures c.join-one.ensures.first.1 c.join-one.ensures.second.1 (omega (arith, opening, cap)) in
    omega (arith, c.value-left.ensures, left, opening)
