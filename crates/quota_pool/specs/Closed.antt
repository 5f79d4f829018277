-- How a pool is closed.
--     passes_at tenant desks      the desks' passes at a tenant
--     MayClose table passes, ClosesWith table passes book      what the closing of a table needs, and what it tells
--     AreClosed desks books      each tenant's book is the logs of its passes, put together
use Rattle.std.specs.Prelude.{◌≡◌, ℕ, ⊤, All, List, [], ◌∷◌, flat_map, slice_get, Some}
use Rattle.std.specs.Option.{option_to_list}
use Rattle.fn_model.specs.Calls.{own}
use Rattle.fn_core.specs.Calls.{CoreLog, calls_in, IsIdle}
use Rattle.fn_table.specs.Seen.{TableView, PassView, IsOf, AreAll, IsClosed}
use Rattle.quota_pool.specs.Views.{DeskView}

-- the desks' passes at a tenant, in order of the desks
abbrev pub passes_at : ℕ → List DeskView → List PassView
passes_at tenant desks = flat_map (λ desk. option_to_list (slice_get desk.passes tenant)) desks

-- A table was closed with these passes: the book's log is their logs put together, in which the own calls of each are as it had seen them
pub record ClosesWith (table : TableView) (passes : List PassView) (book : CoreLog) : Type 0 where
  pub begins : book.start ≡ table.start
  pub closed : IsClosed passes book
  pub calls : (k : ℕ) (p : PassView) → slice_get passes k ≡ Some p → own p.number (calls_in book) ≡ own p.number (calls_in p.seen)

-- a table may be closed with these passes: they are all that it has, in order, and make no call
pub record MayClose (table : TableView) (passes : List PassView) : Type 0 where
  pub together : All (IsOf table) passes
  pub all : AreAll table passes
  pub idle : All (λ p. IsIdle p.seen p.number) passes

-- each table may be closed with the passes in its room
abbrev pub MayCloseAll : List TableView → List (List PassView) → Type 0
MayCloseAll [] [] = ⊤
MayCloseAll (table ∷ tables) (passes ∷ rooms) = MayClose table passes × MayCloseAll tables rooms
MayCloseAll _ _ = ⊥

-- each book is that of its table, closed with the passes in its room
abbrev pub AreClosedFrom : List TableView → List (List PassView) → List CoreLog → Type 0
AreClosedFrom [] [] [] = ⊤
AreClosedFrom (table ∷ tables) (passes ∷ rooms) (book ∷ books) = ClosesWith table passes book × AreClosedFrom tables rooms books
AreClosedFrom _ _ _ = ⊥

-- each tenant's book is the logs of the desks' passes there, put together
abbrev pub AreClosed : List DeskView → List CoreLog → Type 0
AreClosed desks books = (tenant : ℕ) (book : CoreLog) → slice_get books tenant ≡ Some book → IsClosed (passes_at tenant desks) book
