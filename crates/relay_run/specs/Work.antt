-- What a worker puts and takes.
--     line_of workers worker place      the number of the worker's line at a place
--     Advances old new tickets items      what a desk has done between two times
--     IsReady queue worker, IsDone queue worker      a worker before it works, and after
--     HasPlaces workers count worker      its number, and its places for tickets
--     passes_in workers      their passes
use Rattle.std.specs.Prelude.{◌≡◌, ℕ, ◌+◌, ◌*◌, ◌<◌, ◌≤◌, List, [], ◌∷◌, ◌++◌, length, map, slice_index_or, Option, Some, None}
use Rattle.std.specs.Vec.{vec_capacity}
use Rattle.std.specs.declared.vec.Vec.{Vec}
use Rattle.running.specs.Running.{upto}
use Rattle.tq_cells.specs.Seen.{SeatView, entries_of}
use Rattle.tq_queue.specs.Kept.{own_puts, own_takes}
use Rattle.tq_queue.specs.Seen.{QueueView, CallerView, IsOf}
use Rattle.relay_run.specs.declared.desks.Desk.{Desk}
use Rattle.relay_run.specs.declared.lines.TheConstants.{MOST_LINES}
use Rattle.relay_run.specs.declared.workers.Worker.{Worker}
use Rattle.relay_run.specs.Relay.{lines_at, items_put}

-- the number of the worker's line at a place
abbrev pub line_of : ℕ → ℕ → ℕ → ℕ
line_of workers worker place = worker + place * workers

-- the numbers of so many of the worker's lines, in order
abbrev pub first_lines : ℕ → ℕ → ℕ → List ℕ
first_lines workers worker size = map (line_of workers worker) (upto size)

-- the items that a seat has put, in order
abbrev pub own_items : SeatView ℕ → List ℕ
own_items p = items_put (entries_of p.number p.log)

-- Between two times the desk's seat put these items under these tickets, and made those takes that it then no longer owes
pub record Advances (old new : Desk) (tickets items : List ℕ) : Type 0 where
  pub number : new.pass.seat.number ≡ old.pass.seat.number
  pub under : own_puts new.pass.seat ≡ own_puts old.pass.seat ++ tickets
  pub put : own_items new.pass.seat ≡ own_items old.pass.seat ++ items
  pub takes : length (own_takes new.pass.seat) + new.owed ≡ length (own_takes old.pass.seat) + old.owed

-- The worker has a desk of its number, which has done nothing yet and owes a take for each place
pub record IsReady (queue : QueueView) (worker : Worker) : Type 0 where
  pub desk : Desk
  pub there : worker.desk ≡ Some desk
  pub together : IsOf queue desk.pass
  pub number : desk.pass.seat.number ≡ worker.share.worker
  pub fresh : desk.pass.seat.log ≡ []
  pub owed : desk.owed ≡ length worker.tickets.items
  pub few : length worker.tickets.items ≤ MOST_LINES

-- The worker's desk has put a line for each place, in order and under the tickets that stand there, and has taken as many
pub record IsDone (queue : QueueView) (worker : Worker) : Type 0 where
  pub desk : Desk
  pub there : worker.desk ≡ Some desk
  pub together : IsOf queue desk.pass
  pub number : desk.pass.seat.number ≡ worker.share.worker
  pub tickets : own_puts desk.pass.seat ≡ worker.tickets.items
  pub items : own_items desk.pass.seat ≡ first_lines worker.share.workers worker.share.worker (length worker.tickets.items)
  pub takes : length (own_takes desk.pass.seat) ≡ length worker.tickets.items

-- the worker is one of so many, and has a place for each of its lines
pub record HasPlaces (workers count : ℕ) (worker : Worker) : Type 0 where
  pub all : worker.share.workers ≡ workers
  pub inside : worker.share.worker < workers
  pub places : length worker.tickets.items ≡ length (lines_at workers count worker.share.worker)

-- the worker is the same, with as many places
pub record IsSame (old new : Worker) : Type 0 where
  pub share : new.share ≡ old.share
  pub places : length new.tickets.items ≡ length old.tickets.items

-- the workers are the same, each with as many places
pub record AreSame (old new : List Worker) : Type 0 where
  pub count : length new ≡ length old
  pub each : (i : ℕ) (d : Worker) → i < length old → IsSame (slice_index_or old i d) (slice_index_or new i d)

-- nothing is in the list yet, which has room for so many
abbrev pub HasRoom : {X A : Type 0} → ℕ → Vec X A → Type 0
HasRoom count list = (list.items ≡ []) × (vec_capacity list ≡ count)

-- the pass of a desk that is there
abbrev pub pass_in : Option Desk → List (CallerView ℕ)
pass_in None = []
pass_in (Some desk) = desk.pass ∷ []

-- the workers' passes, in order
abbrev pub passes_in : List Worker → List (CallerView ℕ)
passes_in [] = []
passes_in (worker ∷ workers) = pass_in worker.desk ++ passes_in workers
