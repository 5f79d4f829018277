-- The two ranges lie side by side.
use Rattle.std.proofs.Common.{◌≡◌, ap, arith}
use Rattle.fn_core.specs.declared.Start.{Start}
use Rattle.fn_table.specs.Seen.{TableView}
use Rattle.uses.proofs.Totals.{ranges_are}
use Rattle.uses.proofs.ranges.two_ranges.Goals as goal

pub returns-clause-ranges : goal.returns-clause-ranges
returns-clause-ranges g c =
    let t : TableView = c.in_ok-funnel.funnel in
    let opening : t.start.opening ≡ 0 = ap (λ (s : Start). s.opening) c.in_ok-funnel.ensures.funnel in
    let cap : t.start.cap ≡ 9223372036854775807 = ap (λ (s : Start). s.cap) c.in_ok-funnel.ensures.funnel in
    ranges_are t c.both-one.result.0 c.both-one.result.1 c.join-one.result.0.0 c.join-one.result.1.0 c.args.size c.join-one.result.0.1 c.join-one.result.1.1 c.in_ok-close.field-0 c.in_ok-close.ensures c.join-one.ensures.first c.join-one.ensures.second opening (omega (arith, cap, c.requires.1))
