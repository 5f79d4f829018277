-- What a pool claims: of its tenants' integers and their histories, and of nothing that lies below.
--     MadeAt pool old tenant kind amount answer new      the desk has made this call at this tenant
--     HasCallsOf pass book      a book has the calls of a pass
--     TellsBook tenant table desks book, TellsBooks pool desks books      what is told of a tenant's book, and of all
use Rattle.std.specs.Prelude.{◌≡◌, ◌≤◌, ℕ, List, [], length, slice_get, slice_set, Some}
use mathlib.Core.List.{IsPrefix}
use Rattle.fn_model.specs.declared.Kind.{Kind}
use Rattle.fn_model.specs.Calls.{own}
use Rattle.fn_model.specs.Integer.{moved_amount}
use Rattle.fn_core.specs.Calls.{CoreLog, calls_in}
use Rattle.fn_table.specs.Seen.{TableView, PassView}
use Rattle.fn_table.specs.Claims.{past, mine, Made}
use Rattle.quota_pool.specs.declared.moved.Moved.{Moved}
use Rattle.quota_pool.specs.Views.{PoolView, DeskView, Belongs}

-- The desk's pass at this tenant made exactly this call; it met `before`, and moved what the integer allowed. The desk's other passes stand as before, and it is still one of the pool
pub record MadeAt (pool : PoolView) (old : DeskView) (tenant : ℕ) (kind : Kind) (amount : ℕ) (answer : Moved) (new : DeskView) : Type 0 where
  pub pass : PassView
  pub after : PassView
  pub at : slice_get old.passes tenant ≡ Some pass
  pub made : Made pass kind amount answer.before after
  pub moved : answer.moved ≡ moved_amount pass.seen.start.cap answer.before kind amount
  pub desk : new ≡ record { worker = old.worker; passes = slice_set old.passes tenant after }
  pub together : Belongs pool new

-- The book's history begins with all that the pass had seen, so each reply is what its call meets there; and the pass's own calls in it are those that it had made
pub record HasCallsOf (pass : PassView) (book : CoreLog) : Type 0 where
  pub begins : IsPrefix (past pass) (calls_in book)
  pub calls : own pass.number (calls_in book) ≡ mine pass

-- A tenant's book opened as its table did, and has the calls of the desks' passes there, and no other
pub record TellsBook (tenant : ℕ) (table : TableView) (desks : List DeskView) (book : CoreLog) : Type 0 where
  pub start : book.start ≡ table.start
  pub each : (k : ℕ) (desk : DeskView) (pass : PassView) → slice_get desks k ≡ Some desk → slice_get desk.passes tenant ≡ Some pass → HasCallsOf pass book
  pub no_other : (number : ℕ) → length desks ≤ number → own number (calls_in book) ≡ []

-- Each tenant has a book, in order of the tables
pub record TellsBooks (pool : PoolView) (desks : List DeskView) (books : List CoreLog) : Type 0 where
  pub tenants : length books ≡ length pool.tables
  pub each : (tenant : ℕ) (table : TableView) (book : CoreLog) → slice_get pool.tables tenant ≡ Some table → slice_get books tenant ≡ Some book
      → TellsBook tenant table desks book
