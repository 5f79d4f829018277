-- What workers do with the rows of a segment.
--     rows_at rows numbers, of_worker worker rows      the rows of these numbers; the rows of a worker
--     IsFresh rows mine jobs, AreFresh rows places      a worker has these rows to do; each worker has its own
--     MayRun pool desk rows, Ran pool desk jobs after      what a desk's calls of these rows need; the desk made the jobs' calls, with these answers
--     HasMade pool desk rows before after new      the desk made the calls of these rows, and their answers were put behind those that stood there
--     MayBegin pool rows place, IsDone pool rows old new      the same of a place
--     seats rows places      the places, each with its desk, and with its rows and answers as jobs
--     Worked pool old new, AreDealt rows seats      the calls of a seat's jobs were made; each seat has its worker's rows
--     HaveAnswers rows places, gathered rows seats      each place has its answers; the answers, in order of the rows
--     AreMade pool rows places old after new      all calls were made, and the answers put behind those that stood there
use Rattle.std.specs.Prelude.{◌≡◌, ◌<◌, ◌≤◌, ◌==◌, ℕ, None, List, [], ◌∷◌, ◌++◌, length, map, filter, slice_index_or, All}
use Rattle.std.specs.Vec.{vec_capacity}
use Rattle.quota_pool.specs.Views.{PoolView, DeskView, Belongs, left_at}
use Rattle.quota_pool.specs.Claims.{MadeAt}
use Rattle.quota_pool.specs.Calls.{WentAt}
use Rattle.quota_pool.specs.declared.moved.Moved.{Moved}
use Rattle.trace_text.specs.SoundTrace.{IsSoundRow, amounts}
use Rattle.trace_text.specs.declared.traces.Op.TheVariants.{Add}
use Rattle.trace_text.specs.declared.traces.Row.{Row}
use Rattle.replay_run.specs.declared.places.Jobs.{Jobs}
use Rattle.replay_run.specs.declared.places.Place.{Place}
use Rattle.replay_run.specs.Segments.{kind_of, goes_through}

-- A row and its answer
pub record Job : Type 0 where
  pub row : Row
  pub answer : Moved

-- A desk, and its worker's rows with their answers
pub record Seat : Type 0 where
  pub desk : DeskView
  pub jobs : List Job

-- the row where there is none
abbrev pub no_row : Row
no_row = record { at = 0; worker = 0; op = Add; tenant = 0; amount = 0 }

-- the answer where there is none
abbrev pub no_answer : Moved
no_answer = record { before = 0; moved = 0; way = None }

-- the rows of these numbers
abbrev pub rows_at : List Row → List ℕ → List Row
rows_at rows numbers = map (λ number. slice_index_or rows number no_row) numbers

-- the rows of jobs
abbrev pub rows_in : List Job → List Row
rows_in jobs = map (λ job. job.row) jobs

-- the answers of jobs
abbrev pub answers_in : List Job → List Moved
answers_in jobs = map (λ job. job.answer) jobs

-- the rows of a worker
abbrev pub of_worker : ℕ → List Row → List Row
of_worker worker rows = filter (λ row. row.worker == worker) rows

-- A worker's work before its first answer: the numbers of these rows, in order
pub record IsFresh (rows mine : List Row) (jobs : Jobs) : Type 0 where
  pub within : All (λ number. number < length rows) jobs.numbers.items
  pub mine_are : rows_at rows jobs.numbers.items ≡ mine
  pub none : jobs.answers.items ≡ []

-- each worker has its own rows to do
abbrev pub AreFresh : List Row → List Place → Type 0
AreFresh rows places = (worker : ℕ) (d : Place) → worker < length places → IsFresh rows (of_worker worker rows) (slice_index_or places worker d).jobs

-- The desk is one of the pool, and has enough left for the calls of these rows
pub record MayRun (pool : PoolView) (desk : DeskView) (rows : List Row) : Type 0 where
  pub together : Belongs pool desk
  pub sound : All (IsSoundRow pool.workers (length pool.tables)) rows
  pub left : (tenant : ℕ) → amounts tenant rows ≤ left_at desk tenant

-- The desk made the call of a job, with its answer, in the way that its row may go
pub record Called (pool : PoolView) (old : DeskView) (job : Job) (new : DeskView) : Type 0 where
  pub made : MadeAt pool old job.row.tenant (kind_of job.row.op) job.row.amount job.answer new
  pub way : WentAt old job.row.tenant (kind_of job.row.op) (goes_through job.row.op) job.row.amount job.answer new

-- the desk made the calls of the jobs, one after the other, with their answers
abbrev pub Ran : PoolView → DeskView → List Job → DeskView → Type 0
Ran pool old [] new = new ≡ old
Ran pool old (job ∷ jobs) new = (next : DeskView) × Called pool old job next × Ran pool next jobs new

-- The desk made the calls of these rows, and their answers were put behind those that stood there
pub record HasMade (pool : PoolView) (old : DeskView) (rows : List Row) (before after : List Moved) (new : DeskView) : Type 0 where
  pub jobs : List Job
  pub rows_are : rows_in jobs ≡ rows
  pub added : after ≡ before ++ answers_in jobs
  pub ran : Ran pool old jobs new

-- A place's desk has enough left for its rows, and their answers find room
pub record MayBegin (pool : PoolView) (rows : List Row) (place : Place) : Type 0 where
  pub may : MayRun pool place.desk (rows_at rows place.jobs.numbers.items)
  pub within : All (λ number. number < length rows) place.jobs.numbers.items
  pub none : place.jobs.answers.items ≡ []
  pub room : length place.jobs.numbers.items ≤ vec_capacity place.jobs.answers

-- The calls of a place's rows were made on its desk, and it has their answers
pub record IsDone (pool : PoolView) (rows : List Row) (old new : Place) : Type 0 where
  pub same : new.jobs.numbers.items ≡ old.jobs.numbers.items
  pub made : HasMade pool old.desk (rows_at rows old.jobs.numbers.items) [] new.jobs.answers.items new.desk

-- A place has room for its answers, and is else as it was
pub record IsRoomy (old new : Place) : Type 0 where
  pub desk : new.desk ≡ old.desk
  pub numbers : new.jobs.numbers.items ≡ old.jobs.numbers.items
  pub none : new.jobs.answers.items ≡ []
  pub room : length new.jobs.numbers.items ≤ vec_capacity new.jobs.answers

-- the desks of places
abbrev pub desks_at : List Place → List DeskView
desks_at places = map (λ place. place.desk) places

-- the desks of seats
abbrev pub desks_in : List Seat → List DeskView
desks_in seats = map (λ seat. seat.desk) seats

-- rows with their answers, as far as there are answers
abbrev pub answered : List Row → List Moved → List Job
answered [] answers = []
answered (row ∷ rows) [] = record { row = row; answer = no_answer } ∷ answered rows []
answered (row ∷ rows) (answer ∷ answers) = record { row = row; answer = answer } ∷ answered rows answers

-- a place's desk, and its rows with their answers
abbrev pub seat_of : List Row → Place → Seat
seat_of rows place = record { desk = place.desk; jobs = answered (rows_at rows place.jobs.numbers.items) place.jobs.answers.items }

-- all places as seats
abbrev pub seats : List Row → List Place → List Seat
seats rows places = map (seat_of rows) places

-- a seat's desk has enough left for its jobs
abbrev pub MayWork : PoolView → Seat → Type 0
MayWork pool seat = MayRun pool seat.desk (rows_in seat.jobs)

-- The calls of a seat's jobs were made on its desk
pub record Worked (pool : PoolView) (old new : Seat) : Type 0 where
  pub rows : rows_in new.jobs ≡ rows_in old.jobs
  pub ran : Ran pool old.desk new.jobs new.desk

-- the jobs of a worker
abbrev pub jobs_of : List Seat → ℕ → List Job
jobs_of seats worker = (slice_index_or seats worker (record { desk = record { worker = 0; passes = [] }; jobs = [] })).jobs

-- each seat has its worker's rows
abbrev pub AreDealt : List Row → List Seat → Type 0
AreDealt rows seats = (worker : ℕ) → worker < length seats → rows_in (jobs_of seats worker) ≡ of_worker worker rows

-- a worker has an answer for each of its rows
abbrev pub HasAll : Jobs → Type 0
HasAll jobs = length jobs.numbers.items ≤ length jobs.answers.items

-- Each place has its worker's rows, and all their answers
pub record HaveAnswers (rows : List Row) (places : List Place) : Type 0 where
  pub dealt : AreDealt rows (seats rows places)
  pub full : (worker : ℕ) (d : Place) → worker < length places → HasAll (slice_index_or places worker d).jobs

-- the job of this number, and one without an answer where there is none
abbrev pub job_at : List Job → ℕ → Job
job_at jobs n = slice_index_or jobs n (record { row = no_row; answer = no_answer })

-- the answers of rows behind earlier ones: each is that of its worker's next job
abbrev pub gathered_from : List Row → List Seat → List Row → List Moved
gathered_from earlier seats [] = []
gathered_from earlier seats (row ∷ rows) = (job_at (jobs_of seats row.worker) (length (of_worker row.worker earlier))).answer ∷ gathered_from (earlier ++ row ∷ []) seats rows

-- the answers, in order of the rows
abbrev pub gathered : List Row → List Seat → List Moved
gathered rows seats = gathered_from [] seats rows

-- Each place's desk has made the calls of its rows, and all answers were put behind those that stood there, in order of the rows
pub record AreMade (pool : PoolView) (rows : List Row) (places : List Place) (old : List Moved) (after : List Place) (new : List Moved) : Type 0 where
  pub done : List Seat
  pub count : length done ≡ length places
  pub desks : desks_at after ≡ desks_in done
  pub worked : (worker : ℕ) (d : Seat) → worker < length places → Worked pool (slice_index_or (seats rows places) worker d) (slice_index_or done worker d)
  pub added : new ≡ old ++ gathered rows done
