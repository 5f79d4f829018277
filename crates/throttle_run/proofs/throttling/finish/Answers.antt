use Rattle.std.proofs.Common.{◌≡◌, ◌<◌, ℕ, List, sym, subst, length, All}
use Rattle.quota_bucket.specs.Seen.{DeskView, Belongs, AreAll}
use Rattle.quota_bucket.specs.Closed.{IsClosed}
use Rattle.throttle_run.specs.declared.workers.Worker.{Worker}
use Rattle.throttle_run.specs.Throttled.{answers_of}
use Rattle.throttle_run.specs.Work.{tolds, jobs_of}
use Rattle.throttle_run.proofs.Finished.{closes_together, closes_all, throttled}
use Rattle.throttle_run.proofs.throttling.finish.Goals as goal

pub close-requires-clause-together : goal.close-requires-clause-together
close-requires-clause-together c =
    subst (All (Belongs c.args.bucket)) (sym c.in_ok-desks.ensures) (closes_together c.args.setting c.args.bucket c.requires.opens c.args.lines.now c.args.all.items c.requires.count c.requires.done)

pub close-requires-clause-all : goal.close-requires-clause-all
close-requires-clause-all c =
    subst (AreAll c.args.bucket) (sym c.in_ok-desks.ensures) (closes_all c.args.setting c.args.bucket c.requires.opens c.args.lines.now c.args.all.items c.requires.count c.requires.done)

pub returns-clause-throttled : goal.returns-clause-throttled
returns-clause-throttled c =
    throttled c.args.setting c.args.bucket c.requires.opens c.args.lines.now c.args.all.items c.requires.count c.requires.done c.close.result
    (subst (λ (desks : List DeskView). IsClosed c.args.bucket desks c.close.result) c.in_ok-desks.ensures c.close.ensures.closed)
    c.in_ok-answers.answers.items c.in_ok-answers.ensures.one_each
    (subst (λ (all : List Worker). (w : ℕ) → w < length all → answers_of w c.args.lines.now c.in_ok-answers.answers.items ≡ tolds (jobs_of all w)) c.deref.ensures.value c.in_ok-answers.ensures.sorted)
