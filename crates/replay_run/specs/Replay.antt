-- What stands after a replay.
--     IsBook workers cap opening tenant rows book      the book of a tenant after a segment's rows
--     IsAnswered earlier row answer book      the answer of a row behind the earlier ones of its segment
--     IsSegment workers tenants openings rows answers books      all answers and books of a segment
--     AreReplayed workers tenants openings segments answers books      one segment after the other
--     IsReplay workers trace answers books      all segments of a trace
use Rattle.std.specs.Prelude.{◌≡◌, ℕ, List, [], ◌∷◌, length, map, take, drop, slice_get, slice_index, Some}
use mathlib.Core.List.{IsPrefix}
use Rattle.fn_model.specs.Calls.{own}
use Rattle.fn_model.specs.Integer.{value, Meets}
use Rattle.fn_core.specs.Calls.{CoreLog, calls_in, IsLegal}
use Rattle.fn_table.specs.Seen.{PassView}
use Rattle.fn_table.specs.Called.{call_of}
use Rattle.fn_layout.specs.Workers.{IsShapeFor}
use Rattle.quota_pool.specs.declared.moved.Moved.{Moved}
use Rattle.quota_pool.specs.Calls.{Called, EntersBy}
use Rattle.trace_text.specs.declared.traces.Row.{Row}
use Rattle.trace_text.specs.declared.traces.Tenant.{Tenant}
use Rattle.trace_text.specs.Trace.{Content}
use Rattle.replay_run.specs.Segments.{segments, kind_of, goes_through, rows_of, call_after, calls_from}

-- the integer after all calls of a book
abbrev pub value_in : CoreLog → ℕ
value_in book = value book.start.cap book.start.opening (calls_in book)

-- A tenant's book after a segment: each worker's own calls are its rows at this tenant, in order, and there is no other call
pub record IsBook (workers cap opening tenant : ℕ) (rows : List Row) (book : CoreLog) : Type 0 where
  pub legal : IsLegal book
  pub has_shape : IsShapeFor workers book.start.shape
  pub has_cap : book.start.cap ≡ cap
  pub has_opening : book.start.opening ≡ opening
  pub calls : (worker : ℕ) → own worker (calls_in book) ≡ calls_from 0 (rows_of worker tenant rows)

-- The answer of a row: it is that of the call by which its worker's pass went on, and this is the row's call; it is what that call meets in the book, which the call has entered as the way says
pub record IsAnswered (earlier : List Row) (row : Row) (answer : Moved) (book : CoreLog) : Type 0 where
  pub pass : PassView
  pub after : PassView
  pub worker : pass.number ≡ row.worker
  pub start : after.seen.start ≡ book.start
  pub seen : IsPrefix after.seen.log book.log
  pub called : Called pass (kind_of row.op) (goes_through row.op) row.amount answer after
  pub same : call_of pass (kind_of row.op) row.amount ≡ call_after earlier row
  pub met : Meets book.start.cap book.start.opening (calls_in book) (call_after earlier row) answer.before
  pub entered : EntersBy answer.way book (call_after earlier row)

-- A segment: a book for each tenant, and an answer for each row
pub record IsSegment (workers : ℕ) (tenants : List Tenant) (openings : List ℕ) (rows : List Row) (answers : List Moved) (books : List CoreLog) : Type 0 where
  pub one_each : length answers ≡ length rows
  pub all : length books ≡ length tenants
  pub closed : (t : ℕ) (tenant : Tenant) (book : CoreLog) → slice_get tenants t ≡ Some tenant → slice_get books t ≡ Some book
      → IsBook workers tenant.cap (slice_index openings t) t rows book
  pub answered : (k : ℕ) (row : Row) (answer : Moved) (book : CoreLog) → slice_get rows k ≡ Some row → slice_get answers k ≡ Some answer → slice_get books row.tenant ≡ Some book
      → IsAnswered (take k rows) row answer book

-- segments one after the other, each of which opens with the values that the one before has come to
abbrev pub AreReplayed : ℕ → List Tenant → List ℕ → List (List Row) → List Moved → List CoreLog → Type 0
AreReplayed workers tenants openings [] answers books = (answers ≡ []) × (books ≡ [])
AreReplayed workers tenants openings (rows ∷ segments) answers books =
    IsSegment workers tenants openings rows (take (length rows) answers) (take (length tenants) books)
    × AreReplayed workers tenants (map value_in (take (length tenants) books)) segments (drop (length rows) answers) (drop (length tenants) books)

-- all segments of a trace, the first of which opens with the tenants' openings
abbrev pub IsReplay : ℕ → Content → List Moved → List CoreLog → Type 0
IsReplay workers trace answers books = AreReplayed workers trace.tenants (map (λ tenant. tenant.opening) trace.tenants) (segments trace.rows trace.cuts) answers books
