-- Rooms, in which passes lie.
--     contents rooms      the passes that lie in some rooms
--     HasPlaceFor n room      a room has place for so many passes more
--     HaveSizes old new      rooms are as large as they were
--     handed rooms passes, rooms_after rooms desks      each room has got one pass more, and one of each of these desks
--     KeepsRoom closing desk      the first worker's desk keeps room for closing
use Rattle.std.specs.Prelude.{◌≡◌, ◌+◌, ◌≤◌, ℕ, All, Option, Some, Vec, List, [], ◌∷◌, ◌++◌, length, map}
use Rattle.fn_table.specs.Seen.{PassView}
use Rattle.std.specs.declared.alloc.Global.{Global}
use Rattle.std.specs.Vec.{vec_capacity}
use Rattle.quota_pool.specs.declared.closing.Closing.{Closing}
use Rattle.quota_pool.specs.Views.{DeskView}

-- the passes that lie in some rooms
abbrev pub contents : List (Vec PassView Global) → List (List PassView)
contents rooms = map (λ room. room.items) rooms

-- the room has place for so many passes more
abbrev pub HasPlaceFor : ℕ → Vec PassView Global → Type 0
HasPlaceFor n room = length room.items + n ≤ vec_capacity room

-- the rooms are as large as they were
abbrev pub HaveSizes : List (Vec PassView Global) → List (Vec PassView Global) → Type 0
HaveSizes old new = map (λ room. vec_capacity room) new ≡ map (λ room. vec_capacity room) old

-- the rooms after each has got one of these passes
abbrev pub handed : List (List PassView) → List PassView → List (List PassView)
handed [] passes = []
handed (room ∷ rooms) [] = room ∷ rooms
handed (room ∷ rooms) (pass ∷ passes) = (room ++ pass ∷ []) ∷ handed rooms passes

-- .. and after each has got one of each of these desks
abbrev pub rooms_after : List (List PassView) → List DeskView → List (List PassView)
rooms_after rooms [] = rooms
rooms_after rooms (desk ∷ desks) = rooms_after (handed rooms desk.passes) desks

-- the room is empty, and has place for so many passes
abbrev pub IsBare : ℕ → Vec PassView Global → Type 0
IsBare places room = (room.items ≡ []) × (places ≤ vec_capacity room)

-- there is place for closing so many tenants, each with so many passes
pub record HasPlace (workers count : ℕ) (closing : Closing) : Type 0 where
  pub rooms : length closing.rooms.items ≡ count
  pub bare : All (IsBare workers) closing.rooms.items
  pub books : (closing.books.items ≡ []) × (count ≤ vec_capacity closing.books)

-- there is place for closing all tables of these passes
abbrev pub Suits : Closing → List PassView → Type 0
Suits closing passes = (workers : ℕ) × HasPlace workers (length passes) closing × All (λ p. p.seen.start.shape.passes ≤ workers) passes

-- the first worker's desk keeps place for closing all tables of its passes
abbrev pub KeepsRoom : Option Closing → DeskView → Type 0
KeepsRoom closing desk = desk.worker ≡ 0 → (kept : Closing) × (closing ≡ Some kept) × Suits kept desk.passes
