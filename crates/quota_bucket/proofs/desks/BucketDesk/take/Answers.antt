use Rattle.std.proofs.Common.{◌≡◌, Some}
use Rattle.quota_bucket.proofs.Taking.{takes_of, takes_by_of}
use Rattle.quota_bucket.proofs.desks.BucketDesk.take.Goals as goal

pub returns-clause-takes : goal.returns-clause-takes
returns-clause-takes g c =
    let there : c.self.inside.pass ≡ Some c.in-Some.pass = (let value = c.in-Some.ensures.value in let is = c.in-Some.is in cc) in
    takes_of c.args.bucket.now _ c.args.self.now c.self.inside.pass c.self.inside.seat c.claim-found.new.seat c.args.now c.args.amount c.claim-found.result c.saturating_sub-refilled.result c.min.result c.in-Some.pass c.refill-pass.result c.sub-pass.result.0 c.sub-pass.result.1
    c.bucket.view_is c.self.view_is there c.requires.together c.claim-found.ensures c.saturating_sub-refilled.ensures c.refill-pass.ensures.made c.sub-pass.ensures.made c.min.ensures

pub returns-clause-way : goal.returns-clause-way
returns-clause-way g c =
    let there : c.self.inside.pass ≡ Some c.in-Some.pass = (let value = c.in-Some.ensures.value in let is = c.in-Some.is in cc) in
    takes_by_of c.args.bucket.now c.args.self.now c.self.inside.pass c.self.inside.seat c.claim-found.new.seat c.args.amount c.saturating_sub-refilled.result c.min.result c.in-Some.pass c.refill-pass.result c.sub-pass.result.0 c.sub-pass.result.1
    c.self.view_is there c.refill-pass.ensures.way c.sub-pass.ensures.way
