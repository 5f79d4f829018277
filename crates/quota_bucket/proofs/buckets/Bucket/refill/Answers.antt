use Rattle.std.proofs.Common.{◌≡◌, ◌*◌, ◌≤◌, ap, ◌∙◌, arith}
use Rattle.std.proofs.Math.Nat.{one-le-mul}
use Rattle.quota_bucket.specs.Seen.{BucketView, burst}
use Rattle.quota_bucket.specs.Refill.{refill}
use Rattle.quota_bucket.specs.Taking.{tokens}
use Rattle.quota_bucket.proofs.Taking.{refills_some, refills_some_by}
use Rattle.quota_bucket.proofs.buckets.Bucket.refill.Goals as goal

pub add-pass-requires-clause-amount : goal.add-pass-requires-clause-amount
add-pass-requires-clause-amount g c =
    let i = c.self.invariant in
    let cap : c.cap.result ≡ burst c.args.self.now = c.cap.ensures ∙ ap (λ (b : BucketView). burst b) c.self.view_is in
    let some : 1 ≤ c.self.inside.rate * c.args.ticks = one-le-mul (omega (arith, i.rate)) (omega (arith, c.if-ticks-eq0.false)) in
    (omega (arith, some, c.refill-tokens.ensures.exact, c.cap.ensures, i.burst), omega (arith, c.refill-tokens.ensures.within, c.requires.left, cap))

pub returns-clause-made : goal.returns-clause-made
returns-clause-made g c =
    let own : BucketView = record { funnel = c.self.inside.funnel; ticks = c.self.inside.ticks; rate = c.self.inside.rate; period = c.self.inside.period } in
    let here : c.refill-tokens.result ≡ tokens own c.args.ticks = c.refill-tokens.ensures.exact ∙ ap (λ n. refill n c.self.inside.rate c.args.ticks) c.cap.ensures in
    refills_some c.args.self.now c.args.pass c.add-pass.result.0 c.args.ticks c.refill-tokens.result c.add-pass.result.1.before (omega (arith, c.if-ticks-eq0.false)) (here ∙ ap (λ (b : BucketView). tokens b c.args.ticks) c.self.view_is) c.add-pass.ensures.made

pub returns-clause-way : goal.returns-clause-way
returns-clause-way g c =
    let own : BucketView = record { funnel = c.self.inside.funnel; ticks = c.self.inside.ticks; rate = c.self.inside.rate; period = c.self.inside.period } in
    let here : c.refill-tokens.result ≡ tokens own c.args.ticks = c.refill-tokens.ensures.exact ∙ ap (λ n. refill n c.self.inside.rate c.args.ticks) c.cap.ensures in
    refills_some_by c.args.self.now c.args.pass c.add-pass.result.0 c.args.ticks c.refill-tokens.result c.add-pass.result.1 (omega (arith, c.if-ticks-eq0.false)) (here ∙ ap (λ (b : BucketView). tokens b c.args.ticks) c.self.view_is) c.add-pass.ensures.way
