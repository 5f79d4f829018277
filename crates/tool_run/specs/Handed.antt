-- What a run hands back beside its text.
--     HandedBack, handed h, handed_by outcome      the answers and books, as a part of a run gives them, and as the outcome has them
--     nothing, replayed answers books, one_book book, one_queue book, one_bucket book      what is handed back by kind
use Rattle.std.specs.Prelude.{ℕ, List, [], ◌∷◌, Option, Some, None}
use Rattle.fn_core.specs.Calls.{CoreLog}
use Rattle.quota_pool.specs.declared.moved.Moved.{Moved}
use Rattle.quota_bucket.specs.Closed.{BucketLog}
use Rattle.tq_queue.specs.Seen.{BookView}
use Rattle.tool_run.specs.declared.handed.Handed.{Handed}
use Rattle.tool_run.specs.declared.runs.Outcome.{Outcome}

-- answers and books of a replay, or the book of another command
pub record HandedBack : Type 0 where
  pub answers : List Moved
  pub books : List CoreLog
  pub queue : Option (BookView ℕ)
  pub bucket : Option BucketLog

-- .. as a part of a run gives them
abbrev pub handed : Handed → HandedBack
handed h = record { answers = h.answers.items; books = h.books.items; queue = h.queue; bucket = h.bucket }

-- .. and as an outcome has them
abbrev pub handed_by : Outcome → HandedBack
handed_by outcome = record { answers = outcome.answers.items; books = outcome.books.items; queue = outcome.queue; bucket = outcome.bucket }

abbrev pub nothing : HandedBack
nothing = record { answers = []; books = []; queue = None; bucket = None }

-- the answers and books of a replay
abbrev pub replayed : List Moved → List CoreLog → HandedBack
replayed answers books = record { answers = answers; books = books; queue = None; bucket = None }

-- one book
abbrev pub one_book : CoreLog → HandedBack
one_book book = record { answers = []; books = book ∷ []; queue = None; bucket = None }

-- the book of a queue
abbrev pub one_queue : BookView ℕ → HandedBack
one_queue book = record { answers = []; books = []; queue = Some book; bucket = None }

-- the book of a bucket
abbrev pub one_bucket : BucketLog → HandedBack
one_bucket book = record { answers = []; books = []; queue = None; bucket = Some book }
