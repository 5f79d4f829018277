use Rattle.std.proofs.Common.{◌≡◌, Some}
use Rattle.quota_bucket.proofs.Peeking.{peeks_of}
use Rattle.quota_bucket.proofs.desks.BucketDesk.peek.Goals as goal

pub returns-clause-peeks : goal.returns-clause-peeks
returns-clause-peeks c =
    let there : c.self.inside.pass ≡ Some c.in-Some.pass = (let value = c.in-Some.ensures.value in let is = c.in-Some.is in cc) in
    peeks_of c.args.bucket.now c.args.self.now c.self.inside.pass c.self.inside.seat c.in-Some.pass c.read-tokens.new.pass c.read-tokens.result
    c.self.view_is there c.requires.together c.number-in_range.ensures.legal c.read-tokens.ensures.step c.read-tokens.ensures.called
