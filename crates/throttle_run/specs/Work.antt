-- What workers do with their lines.
--     lines_in jobs, tolds jobs      the lines of jobs, and their answers
--     MayRun bucket desk lines, Ran bucket old jobs new      what a desk needs for its lines; it made the takes of the jobs
--     MayWork bucket worker, Worked bucket old new      the same of a worker
--     bare desk, desks_in all, jobs_of all w, job_at jobs n      a worker without lines; the desks, and the jobs of one
--     Each P all, IsDealt lines w worker      what holds of each worker by its number; it has the lines of its number
--     IsReady bucket lines w worker, IsDone bucket lines w worker      a worker before its work, and after it
--     IsSetting setting, OpensFull setting bucket      what is asked of a setting, and a bucket that opened as it says
use Rattle.std.specs.Prelude.{◌≡◌, ℕ, ◌<◌, ◌≤◌, List, [], ◌∷◌, length, map, sum_by, All, slice_index_or}
use Rattle.fn_model.specs.declared.TheConstants.{NO_CAP}
use Rattle.fn_table.specs.Claims.{left}
use Rattle.fn_layout.specs.Workers.{IsShapeFor}
use Rattle.quota_bucket.specs.declared.desks.Taken.{Taken}
use Rattle.quota_bucket.specs.Seen.{BucketView, DeskView, Belongs, burst}
use Rattle.quota_bucket.specs.Opened.{IsNew}
use Rattle.quota_bucket.specs.Taking.{Takes}
use Rattle.throttle_run.specs.declared.lines.ThrottleLine.{ThrottleLine}
use Rattle.throttle_run.specs.declared.throttling.Setting.{Setting}
use Rattle.throttle_run.specs.declared.workers.Job.{Job}
use Rattle.throttle_run.specs.declared.workers.Worker.{Worker}
use Rattle.throttle_run.specs.Lines.{cost}
use Rattle.throttle_run.specs.Throttled.{lines_of}

-- the lines of jobs
abbrev pub lines_in : List Job → List ThrottleLine
lines_in jobs = map (λ job. job.line) jobs

-- the answers of jobs
abbrev pub tolds : List Job → List Taken
tolds jobs = map (λ job. job.told) jobs

-- The desk is one of the bucket, and has enough left for these lines
pub record MayRun (b : BucketView) (desk : DeskView) (lines : List ThrottleLine) : Type 0 where
  pub together : Belongs b desk
  pub amounts : All (λ (line : ThrottleLine). 1 ≤ line.amount) lines
  pub left : sum_by (cost (burst b)) lines ≤ left desk.pass

-- the desk made the takes of the jobs, one after the other, with their answers
abbrev pub Ran : BucketView → DeskView → List Job → DeskView → Type 0
Ran b old [] new = new ≡ old
Ran b old (job ∷ jobs) new = (next : DeskView) × Takes b old job.line.now job.line.amount job.told next × Ran b next jobs new

-- a worker's desk has enough left for its jobs
abbrev pub MayWork : BucketView → Worker → Type 0
MayWork b worker = MayRun b worker.desk (lines_in worker.jobs)

-- The takes of a worker's jobs were made on its desk
pub record Worked (b : BucketView) (old new : Worker) : Type 0 where
  pub lines : lines_in new.jobs ≡ lines_in old.jobs
  pub ran : Ran b old.desk new.jobs new.desk

-- the worker without jobs
abbrev pub bare : DeskView → Worker
bare desk = record { desk = desk; jobs = [] }

-- the desks of workers
abbrev pub desks_in : List Worker → List DeskView
desks_in all = map (λ worker. worker.desk) all

-- what holds of each worker by its number
abbrev pub Each : (ℕ → Worker → Type 0) → List Worker → Type 0
Each P all = (w : ℕ) (d : Worker) → w < length all → P w (slice_index_or all w d)

-- the worker has the lines of its number
abbrev pub IsDealt : List ThrottleLine → ℕ → Worker → Type 0
IsDealt lines w worker = lines_in worker.jobs ≡ lines_of w lines

-- A new desk of this number has made the takes of the worker's lines
pub record IsDone (b : BucketView) (lines : List ThrottleLine) (w : ℕ) (worker : Worker) : Type 0 where
  pub first : DeskView
  pub number : first.seat.number ≡ w
  pub new : IsNew b first
  pub dealt : IsDealt lines w worker
  pub ran : Ran b first worker.jobs worker.desk

-- Before its work, the worker has a new desk of its number, and enough left for its lines
pub record IsReady (b : BucketView) (lines : List ThrottleLine) (w : ℕ) (worker : Worker) : Type 0 where
  pub number : worker.desk.seat.number ≡ w
  pub new : IsNew b worker.desk
  pub dealt : IsDealt lines w worker
  pub may : MayWork b worker

-- What is asked of a setting: 1 to 64 workers, and a burst, a rate and a period of at least 1
pub record IsSetting (s : Setting) : Type 0 where
  pub workers : (1 ≤ s.workers) × (s.workers ≤ 64)
  pub burst : (1 ≤ s.burst) × (s.burst ≤ NO_CAP)
  pub rate : 1 ≤ s.rate
  pub period : 1 ≤ s.period

-- The bucket opened as the setting says, full at the moment 0
pub record OpensFull (s : Setting) (b : BucketView) : Type 0 where
  pub shape : IsShapeFor s.workers b.funnel.start.shape
  pub opening : b.funnel.start.opening ≡ s.burst
  pub cap : b.funnel.start.cap ≡ s.burst
  pub ticks : b.ticks.start ≡ record { tick = 0; desks = s.workers }
  pub rate : b.rate ≡ s.rate
  pub period : b.period ≡ s.period

-- the jobs of a worker
abbrev pub jobs_of : List Worker → ℕ → List Job
jobs_of all w = slice_index_or (map (λ worker. worker.jobs) all) w []

-- the job of this number, and one of nothing where there is none
abbrev pub job_at : List Job → ℕ → Job
job_at jobs n = slice_index_or jobs n (record { place = 0; line = record { at = 0; worker = 0; now = 0; amount = 0 }; told = record { refilled = 0; before = 0; moved = 0 } })
