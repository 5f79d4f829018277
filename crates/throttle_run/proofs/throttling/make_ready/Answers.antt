use Rattle.std.proofs.Common.{ℕ, List, subst}
use Rattle.quota_bucket.specs.Opened.{OpensWith}
use Rattle.throttle_run.proofs.Ready.{lines_there, count_workers, ready}
use Rattle.throttle_run.proofs.throttling.make_ready.Goals as goal

pub engage-requires : goal.engage-requires
engage-requires c =
    lines_there c.args.setting c.args.lines.now c.requires.sound c.in_ok-allowances.allowances.items c.in_ok-allowances.ensures.count c.in_ok-allowances.ensures.each c.in_ok-bucket.bucket
    (subst (λ (all : List ℕ). OpensWith c.args.setting.burst c.args.setting.burst c.args.setting.rate c.args.setting.period 0 all c.in_ok-bucket.bucket) c.deref.ensures.value c.in_ok-bucket.ensures.bucket) c.in_ok-bucket.desks.items c.in_ok-bucket.ensures.desks c.in_ok-bucket.ensures.new

pub returns-clause-count : goal.returns-clause-count
returns-clause-count c =
    count_workers c.args.setting c.args.lines.now c.requires.sound c.in_ok-allowances.allowances.items c.in_ok-allowances.ensures.count c.in_ok-allowances.ensures.each c.in_ok-bucket.bucket
    (subst (λ (all : List ℕ). OpensWith c.args.setting.burst c.args.setting.burst c.args.setting.rate c.args.setting.period 0 all c.in_ok-bucket.bucket) c.deref.ensures.value c.in_ok-bucket.ensures.bucket) c.in_ok-bucket.desks.items c.in_ok-bucket.ensures.desks c.in_ok-bucket.ensures.new
    c.in_ok-all.all.items c.in_ok-all.ensures.desks c.in_ok-all.ensures.dealt

pub returns-clause-ready : goal.returns-clause-ready
returns-clause-ready c =
    ready c.args.setting c.args.lines.now c.requires.sound c.in_ok-allowances.allowances.items c.in_ok-allowances.ensures.count c.in_ok-allowances.ensures.each c.in_ok-bucket.bucket
    (subst (λ (all : List ℕ). OpensWith c.args.setting.burst c.args.setting.burst c.args.setting.rate c.args.setting.period 0 all c.in_ok-bucket.bucket) c.deref.ensures.value c.in_ok-bucket.ensures.bucket) c.in_ok-bucket.desks.items c.in_ok-bucket.ensures.desks c.in_ok-bucket.ensures.new
    c.in_ok-all.all.items c.in_ok-all.ensures.desks c.in_ok-all.ensures.dealt
