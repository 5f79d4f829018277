use Rattle.std.proofs.Common.{◌≡◌, sym, ap, ◌∙◌}
use Rattle.fn_core.specs.declared.Start as core
use Rattle.tick_table.specs.declared.entry.Start as tick
use Rattle.quota_bucket.specs.Seen.{BucketView}
use Rattle.quota_bucket.proofs.Dealt.{are_fresh, are_new}
use Rattle.quota_bucket.proofs.buckets.Bucket.open.Goals as goal

pub returns-clause-desks : goal.returns-clause-desks
returns-clause-desks c =
    let b : BucketView = record { funnel = c.in_ok-funnel.funnel; ticks = c.in_ok-ticks.ticks; rate = c.args.rate; period = c.args.period } in
    let count : b.funnel.start.shape.passes ≡ b.ticks.start.desks = ap (λ (s : core.Start). s.shape.passes) c.in_ok-funnel.ensures.funnel ∙ c.shape_for.ensures.0 ∙ sym (ap (λ (s : tick.Start). s.desks) c.in_ok-ticks.ensures.table) in
    are_fresh b c.in_ok-ticks.seats.items c.in_ok-funnel.passes.items c.in_ok-desks.desks.items count c.in_ok-ticks.ensures.seats c.in_ok-funnel.ensures.passes.fresh c.in_ok-desks.ensures

pub returns-clause-new : goal.returns-clause-new
returns-clause-new c =
    let b : BucketView = record { funnel = c.in_ok-funnel.funnel; ticks = c.in_ok-ticks.ticks; rate = c.args.rate; period = c.args.period } in
    let count : b.funnel.start.shape.passes ≡ b.ticks.start.desks = ap (λ (s : core.Start). s.shape.passes) c.in_ok-funnel.ensures.funnel ∙ c.shape_for.ensures.0 ∙ sym (ap (λ (s : tick.Start). s.desks) c.in_ok-ticks.ensures.table) in
    let fresh = are_fresh b c.in_ok-ticks.seats.items c.in_ok-funnel.passes.items c.in_ok-desks.desks.items count c.in_ok-ticks.ensures.seats c.in_ok-funnel.ensures.passes.fresh c.in_ok-desks.ensures in
    are_new b c.in_ok-funnel.passes.items c.in_ok-desks.desks.items count c.in_ok-funnel.ensures.passes fresh
