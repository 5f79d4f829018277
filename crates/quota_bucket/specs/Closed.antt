-- A bucket ends.
--     BucketLog, history book      a closed bucket: the book of its tokens, and the log of its ticks
--     HasAll book desk      the book has the calls and the entries of a desk
--     IsClosed bucket desks book      what the closing of a bucket tells
--     ClosesBy desks book      how its two tables have closed
--     TakesStand      what a take has met stands in the book
use Rattle.std.specs.Prelude.{◌≡◌, ◌<◌, ℕ, List, length, map, slice_get, Some, All}
use mathlib.Core.List.{IsPrefix}
use Rattle.fn_model.specs.declared.Call.{Call}
use Rattle.fn_model.specs.Calls.{own}
use Rattle.fn_model.specs.Integer.{Meets}
use Rattle.fn_core.specs.Calls.{CoreLog, calls_in}
use Rattle.fn_table.specs.Seen as tokens
use Rattle.fn_table.specs.Claims.{past, mine}
use Rattle.tick_table.specs.declared.entry.Entry.{Entry}
use Rattle.tick_table.specs.Seen.{TickLog, entries_of}
use Rattle.tick_table.specs.Seen as ticks
use Rattle.quota_bucket.specs.declared.desks.Taken.{Taken}
use Rattle.quota_bucket.specs.Seen.{BucketView, DeskView, burst}
use Rattle.quota_bucket.specs.Taking.{taking, Takes}

-- a closed bucket: the book of its tokens, and the log of its ticks
pub record BucketLog : Type 0 where
  pub tokens : CoreLog
  pub ticks : TickLog

-- all calls on the tokens, in order
abbrev pub history : BucketLog → List Call
history book = calls_in book.tokens

-- The book has what the desk has seen, and its own calls and entries as the desk has them
pub record HasAll (book : BucketLog) (d : DeskView) : Type 0 where
  pub past : IsPrefix (past d.pass) (history book)
  pub calls : own d.pass.number (history book) ≡ mine d.pass
  pub log : IsPrefix d.seat.log book.ticks.log
  pub entries : entries_of d.seat.number book.ticks.log ≡ entries_of d.seat.number d.seat.log

-- A closed bucket: it had opened with these numbers, it has all that its desks have, and no call and no entry but theirs
pub record IsClosed (b : BucketView) (desks : List DeskView) (book : BucketLog) : Type 0 where
  pub tokens : book.tokens.start ≡ b.funnel.start
  pub ticks : book.ticks.start ≡ b.ticks.start
  pub each : (k : ℕ) (d : DeskView) → slice_get desks k ≡ Some d → HasAll book d
  pub callers : All (λ (call : Call). call.pass < length desks) (history book)
  pub enterers : All (λ (e : Entry). e.desk < length desks) book.ticks.log

-- its two tables have closed over the passes and the seats of the desks
abbrev pub ClosesBy : List DeskView → BucketLog → Type 0
ClosesBy desks book = tokens.IsClosed (map (λ d. d.pass) desks) book.tokens × ticks.IsClosed (map (λ d. d.seat) desks) book.ticks

-- what a take told is what its subtraction meets in each history that goes on from what the desk had seen then, so in that of the book
abbrev pub TakesStand : Type 0
TakesStand = (b : BucketView) (p q : DeskView) (now amount : ℕ) (told : Taken) → Takes b p now amount told q → (whole : List Call) → IsPrefix (past q.pass) whole
    → Meets (burst b) b.funnel.start.opening whole (taking p.pass told.refilled amount) told.before
