-- How a call begins on the table, where others come between its scans.
--     Taken, Takes pass takings after      a step and the number that it found, and several one after the other
--     scan_takings shape kind pass finds      the scans of a beginning, with what they found
--     RowTried, LevelTried, RowsTried      one row was tried, the rows of a level, and those of all levels
--     IsBeginning pass kind amount takings after      the steps by which a call begins
--     HasBegun pass kind amount after, IsRefused pass kind takings at      the call that it made, or why it is refused
--     AreFirstOpen pass finds rows      at each level the row is the first that is open by these finds
--     BeginAnswers pass kind amount answer      what a beginning answers
use Rattle.std.specs.Prelude.{◌≡◌, ◌≢◌, ◌⊎◌, ℕ, suc, ◌+◌, ◌-◌, ◌*◌, ◌<◌, ◌≤◌, List, [], ◌∷◌, ◌++◌, Option, Some, None, map, length, option_map, Result, Ok, Err, false, slice_index_or}
use Rattle.std.specs.List.{range_with_len, find, flat_map, Contains}
use Rattle.fn_model.specs.declared.Kind.{Kind}
use Rattle.fn_rows.specs.Machine.{Lets}
use Rattle.fn_layout.specs.declared.shape.Shape.{Shape}
use Rattle.fn_layout.specs.Tree.{IsLevel, aggregator, member}
use Rattle.fn_core.specs.declared.Move.{Move}
use Rattle.fn_core.specs.declared.Move.TheVariants.{Scan, See, Announce, Arrive}
use Rattle.fn_core.specs.declared.answer.Blocked.{Blocked}
use Rattle.fn_core.specs.Words.{Own}
use Rattle.fn_core.specs.Calls.{IsIdle}
use Rattle.fn_core.specs.Begin.{Finds, WaitsAtLeaf, up_to, blocker_by, scanned_by, is_open_by, rows_tried_by, has_open_by, is_full_by, full_level_by, begin_moves_by}
use Rattle.fn_table.specs.Seen.{PassView, Stepped, own_of}
use Rattle.fn_table.specs.Later.{IsLater}
use Rattle.fn_climb.specs.declared.beginning.Begun.{Begun}
use Rattle.fn_climb.specs.declared.beginning.Begun.TheVariants.{Waiting, NoRow}

-- a step that was taken, and the number that it found
pub record Taken : Type 0 where
  pub step : Move
  pub number : ℕ

-- the pass took these steps, one after the other, which found these numbers
abbrev pub Takes : PassView → List Taken → PassView → Type 0
Takes p [] q = q ≡ p
Takes p (t ∷ ts) q = (r : PassView) × Stepped p t.step t.number r × Takes r ts q

-- the scan of another pass, with the word that was found
abbrev pub scan_taken : Kind → ℕ → (ℕ → ℕ) → ℕ → Taken
scan_taken kind level words q = record { step = Scan kind level q; number = words q }

-- the scans for one row
abbrev pub row_takings : Shape → Kind → ℕ → ℕ → Finds → ℕ → List Taken
row_takings shape kind level pass finds n = map (scan_taken kind level (finds.words n)) (scanned_by shape level pass (finds.words n) (finds.ends n))

-- .. at a level
abbrev pub level_takings : Shape → Kind → ℕ → Finds → ℕ → List Taken
level_takings shape kind pass finds level = flat_map (row_takings shape kind level pass finds) (rows_tried_by shape level pass finds)

-- .. at each level, up to the first without an open row
abbrev pub scan_takings : Shape → Kind → ℕ → (ℕ → Finds) → List Taken
scan_takings shape kind pass finds = flat_map (λ level. level_takings shape kind pass (finds level) level) (up_to (is_full_by shape pass finds) (range_with_len 1 shape.levels))

-- what a beginning goes by: the ends of the pass's own rows, and the words that its scans found
abbrev pub finds_of : PassView → Kind → (ℕ → ℕ → ℕ → ℕ) → ℕ → Finds
finds_of p kind words level = record { ends = (own_of p).ends kind level; words = words level }

-- the load by which another pass blocks a row, whose announcement was this word
abbrev pub blocked_load : ℕ → ℕ → (ℕ → ℕ) → ℕ → Blocked
blocked_load level row words other = record { level = level; row = row; pass = other; announced = words other - 1 }

-- nothing of the pass changed but what its scans of this kind found
pub record IsStill (p : PassView) (q : PassView) : Type 0 where
  pub later : IsLater p q
  pub caller : (own_of q).caller ≡ (own_of p).caller
  pub stages : (own_of q).stages ≡ (own_of p).stages
  pub ends : (own_of q).ends ≡ (own_of p).ends

-- the pass's row may be filled, by what is its own: it never was, or what was found of each other pass of the aggregator lets it be
abbrev pub IsOpen : Shape → ℕ → Own → Kind → ℕ → ℕ → Type 0
IsOpen shape pass o kind level n =
    (o.ends kind level n ≡ 0) ⊎ ((q : ℕ) → q < shape.passes → q ≢ pass → aggregator shape q level ≡ aggregator shape pass level → (word : ℕ) × (o.found kind level (member shape level q) ≡ Some word) × Lets word (o.ends kind level n))

-- one row was tried: it is open, or this load blocks it
pub record RowTried (p : PassView) (kind : Kind) (level n : ℕ) (blocked : Option Blocked) (q : PassView) : Type 0 where
  pub words : ℕ → ℕ
  pub takes : Takes p (map (scan_taken kind level words) (scanned_by p.seen.start.shape level p.number words ((own_of p).ends kind level n))) q
  pub told : blocked ≡ option_map (blocked_load level n words) (blocker_by p.seen.start.shape level p.number words ((own_of p).ends kind level n))
  pub still : IsStill p q
  pub apart : (l : ℕ) → l ≢ level → (own_of q).found kind l ≡ (own_of p).found kind l
  pub free : blocked ≡ None → IsOpen p.seen.start.shape p.number (own_of q) kind level n

-- the load is the one that blocked the last row of a level
abbrev pub IsLastLoad : PassView → Finds → ℕ → Blocked → Type 0
IsLastLoad p finds level at =
    let last = p.seen.start.shape.rows - 1 in
    (other : ℕ) × (blocker_by p.seen.start.shape level p.number (finds.words last) (finds.ends last) ≡ Some other) × (at ≡ blocked_load level last (finds.words last) other)

-- the first row of a level that is open by these finds
abbrev pub first_open_by : Shape → ℕ → ℕ → Finds → Option ℕ
first_open_by shape level pass finds = find (is_open_by shape level pass finds) (range_with_len 0 shape.rows)

-- .. of a level, by whether it has an open row
abbrev pub LevelTold : PassView → Kind → ℕ → Finds → PassView → Result ℕ Blocked → Type 0
LevelTold p kind level finds q (Ok row) =
    (first_open_by p.seen.start.shape level p.number finds ≡ Some row) × (row < p.seen.start.shape.rows) × IsOpen p.seen.start.shape p.number (own_of q) kind level row
LevelTold p kind level finds q (Err at) = (has_open_by p.seen.start.shape level p.number finds ≡ false) × IsLastLoad p finds level at

-- the rows of a level were tried, up to the first open one
pub record LevelTried (p : PassView) (kind : Kind) (level : ℕ) (found : Result ℕ Blocked) (q : PassView) : Type 0 where
  pub words : ℕ → ℕ → ℕ
  pub takes : Takes p (level_takings p.seen.start.shape kind p.number (record { ends = (own_of p).ends kind level; words = words }) level) q
  pub told : LevelTold p kind level (record { ends = (own_of p).ends kind level; words = words }) q found
  pub still : IsStill p q
  pub apart : (l : ℕ) → l ≢ level → (own_of q).found kind l ≡ (own_of p).found kind l

-- at each level the list has the first row that is open by these finds
abbrev pub AreFirstOpen : PassView → (ℕ → Finds) → List ℕ → Type 0
AreFirstOpen p finds rows = (level : ℕ) → IsLevel p.seen.start.shape level → first_open_by p.seen.start.shape level p.number (finds level) ≡ Some (slice_index_or rows (level - 1) 0)

-- .. of all levels
abbrev pub RowsTold : PassView → Kind → (ℕ → Finds) → PassView → Result (List ℕ) Blocked → Type 0
RowsTold p kind finds q (Ok rows) =
    (full_level_by p.seen.start.shape p.number finds ≡ None)
    × ((level : ℕ) → IsLevel p.seen.start.shape level → (slice_index_or rows (level - 1) 0 < p.seen.start.shape.rows) × IsOpen p.seen.start.shape p.number (own_of q) kind level (slice_index_or rows (level - 1) 0))
    × AreFirstOpen p finds rows
RowsTold p kind finds q (Err at) = (level : ℕ) × (full_level_by p.seen.start.shape p.number finds ≡ Some level) × IsLastLoad p (finds level) level at

-- the levels were tried, up to the first without an open row
pub record RowsTried (p : PassView) (kind : Kind) (found : Result (List ℕ) Blocked) (q : PassView) : Type 0 where
  pub words : ℕ → ℕ → ℕ → ℕ
  pub takes : Takes p (scan_takings p.seen.start.shape kind p.number (finds_of p kind words)) q
  pub told : RowsTold p kind (finds_of p kind words) q found
  pub still : IsStill p q

-- each level of the shape has an open row in the list
abbrev pub AreOpen : PassView → Kind → List ℕ → Type 0
AreOpen p kind rows = (level : ℕ) → IsLevel p.seen.start.shape level → (slice_index_or rows (level - 1) 0 < p.seen.start.shape.rows) × IsOpen p.seen.start.shape p.number (own_of p) kind level (slice_index_or rows (level - 1) 0)

-- the call that the pass made last is the one that it makes here, whose amount it has spent
pub record HasBegun (p : PassView) (kind : Kind) (amount : ℕ) (q : PassView) : Type 0 where
  pub waits : WaitsAtLeaf q.seen q.number kind
  pub last : (own_of q).caller.last ≡ record { pass = p.number; number = (own_of p).caller.made; kind = kind; amount = amount }
  pub made : (own_of q).caller.made ≡ suc (own_of p).caller.made
  pub left : (own_of q).caller.left + amount ≡ (own_of p).caller.left

-- a call's first three steps at its leaf, with the numbers that they found
abbrev pub first_takings : Kind → ℕ → ℕ → ℕ → ℕ → List Taken
first_takings kind amount a b n = record { step = See kind 1; number = a } ∷ record { step = Announce kind 1; number = b } ∷ record { step = Arrive kind 1 amount; number = n } ∷ []

-- these steps end with those three
abbrev pub EndsAtLeaf : Kind → ℕ → List Taken → Type 0
EndsAtLeaf kind amount takings = (earlier : List Taken) × (a b n : ℕ) × (takings ≡ earlier ++ first_takings kind amount a b n)

-- the pass arrived at its leaf
pub record Arrived (p : PassView) (kind : Kind) (amount : ℕ) (q : PassView) : Type 0 where
  pub a : ℕ
  pub b : ℕ
  pub n : ℕ
  pub takes : Takes p (first_takings kind amount a b n) q
  pub later : IsLater p q
  pub begun : HasBegun p kind amount q

-- The pass took the steps by which a call begins, by the ends of its rows and what its scans found: at most levels * (passes * rows + 3)
pub record IsBeginning (p : PassView) (kind : Kind) (amount : ℕ) (takings : List Taken) (q : PassView) : Type 0 where
  pub takes : Takes p takings q
  pub words : ℕ → ℕ → ℕ → ℕ
  pub steps : map (λ t. t.step) takings ≡ begin_moves_by p.seen.start.shape p.number kind amount (finds_of p kind words)
  pub scans : (rest : List Taken) × (takings ≡ scan_takings p.seen.start.shape kind p.number (finds_of p kind words) ++ rest)
  pub short : length takings ≤ p.seen.start.shape.levels * (p.seen.start.shape.passes * p.seen.start.shape.rows + 3)
  pub later : IsLater p q

-- one of these steps found this number announced by another pass, and it is below the end of the pass's n-th row
pub record IsHeld (p : PassView) (kind : Kind) (takings : List Taken) (level n other announced : ℕ) : Type 0 where
  pub loaded : Contains takings (record { step = Scan kind level other; number = suc announced })
  pub another : other ≢ p.number
  pub below : announced < (own_of p).ends kind level n

-- at this level each of the pass's rows is held by a load of these steps, and the last of them is this one
pub record IsRefused (p : PassView) (kind : Kind) (takings : List Taken) (at : Blocked) : Type 0 where
  pub level : IsLevel p.seen.start.shape at.level
  pub each : (n : ℕ) → n < p.seen.start.shape.rows → (other announced : ℕ) × IsHeld p kind takings at.level n other announced
  pub row : suc at.row ≡ p.seen.start.shape.rows
  pub held : IsHeld p kind takings at.level at.row at.pass at.announced
  pub last : (earlier : List Taken) × (takings ≡ earlier ++ record { step = Scan kind at.level at.pass; number = suc at.announced } ∷ [])

-- what a beginning answers: the call waits at its leaf, and keeps at each level the first row that was open by what its scans found, or at some level each row is blocked, and the pass has made no call
abbrev pub BeginAnswers : PassView → Kind → ℕ → Begun → Type 0
BeginAnswers p kind amount (Waiting q) =
    (takings : List Taken) × (b : IsBeginning p kind amount takings q.pass) × EndsAtLeaf kind amount takings × HasBegun p kind amount q.pass × AreFirstOpen p (finds_of p kind b.words) q.rows
BeginAnswers p kind amount (NoRow q at) = (takings : List Taken) × IsBeginning p kind amount takings q × IsRefused p kind takings at × ((own_of q).caller ≡ (own_of p).caller) × IsIdle q.seen q.number
