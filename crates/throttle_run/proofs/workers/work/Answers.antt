use Rattle.std.proofs.Common.{◌≡◌, ◌+◌, ◌<◌, ◌∷◌, List, take, drop, length, get_or, arith, subst, sym, ap, ◌∙◌, ℕ, refl}
use Rattle.std.proofs.lemmas.List.{drop_more, drop-set-lt, take_more_set}
use Rattle.throttle_run.specs.declared.workers.Job.{Job}
use Rattle.throttle_run.specs.Work.{lines_in, MayRun, Ran}
use Rattle.throttle_run.proofs.Served.{ran_more, may_more, first_left, first_amount, same_lines}
use Rattle.throttle_run.proofs.workers.work.Goals as goal

abbrev none : Job
none = record { place = 0; line = record { at = 0; worker = 0; now = 0; amount = 0 }; told = record { refilled = 0; before = 0; moved = 0 } }

-- what is left begins with the line at hand
here : (jobs : List Job) (i : ℕ) → i < length jobs → lines_in (drop i jobs) ≡ (get_or jobs i none).line ∷ lines_in (drop (i + 1) jobs)
here jobs i within = ap lines_in (drop_more jobs i none within)

pub take-job-requires-clause-left : goal.take-job-requires-clause-left
take-job-requires-clause-left g c =
    let jobs : List Job = c.loop-job.jobs in
    let i = c.loop-job.job-index in
    let within : i < length jobs = omega arith in
    first_left c.args.bucket.now c.loop-job.desk (get_or jobs i none).line (lines_in (drop (i + 1) jobs)) (subst (MayRun c.args.bucket.now c.loop-job.desk) (here jobs i within) c.loop-job.invariant.may)

pub take-job-requires-clause-amount : goal.take-job-requires-clause-amount
take-job-requires-clause-amount g c =
    let jobs : List Job = c.loop-job.jobs in
    let i = c.loop-job.job-index in
    let within : i < length jobs = omega arith in
    first_amount c.args.bucket.now c.loop-job.desk (get_or jobs i none).line (lines_in (drop (i + 1) jobs)) (subst (MayRun c.args.bucket.now c.loop-job.desk) (here jobs i within) c.loop-job.invariant.may)

pub loop-job-preserved : goal.loop-job-preserved
loop-job-preserved g c =
    let jobs : List Job = c.loop-job.jobs in
    let i = c.loop-job.job-index in
    let within : i < length jobs = omega arith in
    let job : Job = record (get_or jobs i none) { told = c.take-job.result } in
    let may : MayRun c.args.bucket.now c.loop-job.desk (job.line ∷ lines_in (drop (i + 1) jobs)) = subst (MayRun c.args.bucket.now c.loop-job.desk) (here jobs i within) c.loop-job.invariant.may in
    record {
      before_callable = c.loop-job.invariant.before_callable;
      after_callable = c.loop-job.invariant.after_callable;
      ran = subst (λ (done : List Job). Ran c.args.bucket.now c.args.desk.now done c.take-job.new.self) (sym (take_more_set jobs i job within))
          (ran_more c.args.bucket.now c.args.desk.now (take i jobs) c.loop-job.desk job c.take-job.new.self c.loop-job.invariant.ran c.take-job.ensures.takes);
      lines = same_lines jobs i job none refl ∙ c.loop-job.invariant.lines;
      may = subst (λ (left : List Job). MayRun c.args.bucket.now c.take-job.new.self (lines_in left)) (sym (drop-set-lt (i + 1) jobs i job (omega arith)))
          (may_more c.args.bucket.now c.loop-job.desk job.line (lines_in (drop (i + 1) jobs)) c.take-job.result c.take-job.new.self may c.take-job.ensures.takes);
    }
