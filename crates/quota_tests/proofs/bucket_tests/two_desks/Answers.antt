use Rattle.std.proofs.Common.{Some}
use Rattle.std.proofs.lemmas.List.Elements.{All-pop}
use Rattle.quota_bucket.specs.Opened.{IsNew}
use Rattle.quota_tests.proofs.bucket_tests.two_desks.Goals as goal

pub returns-clause-together : goal.returns-clause-together
returns-clause-together c =
    let last = All-pop (IsNew c.args.bucket.now) c.args.desks.items c.pop.new.self.items (Some c.in_ok-second.second) c.in_ok-second.ensures.items c.requires.new in
    let first = All-pop (IsNew c.args.bucket.now) c.pop.new.self.items c.pop-2.new.self.items (Some c.in_ok-first.first) c.in_ok-first.ensures.items last.0 in
    (first.1.together, last.1.together)
