-- How a call begins: which rows it tries at each level, which passes it scans for them, and when it is refused.
--     Finds      what a beginning goes by at a level: the ends of the pass's rows, and what each scan found
--     scanned_by shape level pass words end      the passes that are scanned for a row
--     is_open_by shape level pass finds n      no announcement keeps the row from being filled
--     begin_moves_by shape pass kind amount finds      the steps by which the call begins
--     is_open, begin_moves ..      the same in one state, where nobody comes between
--     begun start s pass kind      what its beginning answers
--     IsBlocked start s pass kind moves at      why it is refused
--     WaitsAtLeaf core pass kind      the pass's call waits at its leaf
use Rattle.std.specs.Prelude.{ℕ, suc, ◌+◌, ◌-◌, ◌*◌, ◌<◌, ◌≡◌, ◌≢◌, Bool, ◌&&◌, not, ◌==◌, if◌then◌else◌, List, [], ◌∷◌, ◌++◌, Option, Some, None, is_none, unwrap_or, option_map, map}
use Rattle.std.specs.List.{range_with_len, list_any, find, filter, flat_map, Contains}
use Rattle.fn_model.specs.declared.Kind.{Kind}
use Rattle.fn_layout.specs.declared.shape.Shape.{Shape}
use Rattle.fn_layout.specs.Tree.{IsLevel}
use Rattle.fn_layout.specs.Words.{Announcement}
use Rattle.fn_core.specs.declared.answer.Blocked.{Blocked}
use Rattle.fn_core.specs.declared.answer.CoreBegun.{CoreBegun}
use Rattle.fn_core.specs.declared.answer.CoreBegun.TheVariants.{Waiting, NoRow}
use Rattle.fn_core.specs.declared.Event.{Event}
use Rattle.fn_core.specs.declared.Move.{Move}
use Rattle.fn_core.specs.declared.Move.TheVariants.{Scan, See, Announce, Arrive}
use Rattle.fn_core.specs.Tree.{aggregator, member}
use Rattle.fn_core.specs.State.{Start, Climbing, State, stage}
use Rattle.fn_core.specs.Machine.{place}
use Rattle.fn_core.specs.Words.{word}
use Rattle.fn_core.specs.Order.{lets}
use Rattle.fn_core.specs.Calls.{CoreLog, state_in, HasCall}
use Rattle.fn_rows.specs.declared.Stage.TheVariants as stages

-- the items up to the first of which the test holds, and that one
abbrev pub up_to : {A : Type 0} → (A → Bool) → List A → List A
up_to test [] = []
up_to test (x ∷ xs) = x ∷ (if test x then [] else up_to test xs)

-- whether a pass is another one of the pass's aggregator
abbrev pub is_other : Shape → ℕ → ℕ → ℕ → Bool
is_other shape level pass q = (aggregator shape q level == aggregator shape pass level) && not (q == pass)

-- the other passes of the pass's aggregator, by rising number
abbrev pub others : Shape → ℕ → ℕ → List ℕ
others shape level pass = filter (is_other shape level pass) (range_with_len 0 shape.passes)

-- the end of the batch that the pass's n-th row held last, or 0
abbrev pub row_end : Start → State → Kind → ℕ → ℕ → ℕ → ℕ
row_end start s kind level pass n = (place start s kind level pass).end (member start.shape level pass * start.shape.rows + n)

-- whether the announcement of another pass, of these words, keeps a row with this end from being filled again
abbrev pub blocks_by : (ℕ → ℕ) → ℕ → ℕ → Bool
blocks_by words end q = not (lets (Some (words q)) end)

-- the first other pass that blocks a row with this end; a row that was never filled has end 0, and nobody blocks it
abbrev pub blocker_by : Shape → ℕ → ℕ → (ℕ → ℕ) → ℕ → Option ℕ
blocker_by shape level pass words end = if end == 0 then None else find (blocks_by words end) (others shape level pass)

-- the passes that are scanned for a row with this end: none where it was never filled, else the others up to the first that blocks it
abbrev pub scanned_by : Shape → ℕ → ℕ → (ℕ → ℕ) → ℕ → List ℕ
scanned_by shape level pass words end = if end == 0 then [] else up_to (blocks_by words end) (others shape level pass)

-- What a beginning goes by at a level: the end of each of the pass's rows, and for each row that it tries what the announcement of each pass was found to be
pub record Finds : Type 0 where
  pub ends : ℕ → ℕ
  pub words : ℕ → ℕ → ℕ

-- whether nobody blocks the pass's n-th row
abbrev pub is_open_by : Shape → ℕ → ℕ → Finds → ℕ → Bool
is_open_by shape level pass finds n = is_none (blocker_by shape level pass (finds.words n) (finds.ends n))

-- the rows that are tried at a level: up to the first open one
abbrev pub rows_tried_by : Shape → ℕ → ℕ → Finds → List ℕ
rows_tried_by shape level pass finds = up_to (is_open_by shape level pass finds) (range_with_len 0 shape.rows)

-- whether a level has an open row
abbrev pub has_open_by : Shape → ℕ → ℕ → Finds → Bool
has_open_by shape level pass finds = list_any (is_open_by shape level pass finds) (range_with_len 0 shape.rows)

-- the scans for one row
abbrev pub row_scans_by : Shape → Kind → ℕ → ℕ → Finds → ℕ → List Move
row_scans_by shape kind level pass finds n = map (λ q. Scan kind level q) (scanned_by shape level pass (finds.words n) (finds.ends n))

-- .. and at a level
abbrev pub level_scans_by : Shape → Kind → ℕ → Finds → ℕ → List Move
level_scans_by shape kind pass finds level = flat_map (row_scans_by shape kind level pass finds) (rows_tried_by shape level pass finds)

-- whether a level has no open row
abbrev pub is_full_by : Shape → ℕ → (ℕ → Finds) → ℕ → Bool
is_full_by shape pass finds level = not (has_open_by shape level pass (finds level))

-- the first level without an open row
abbrev pub full_level_by : Shape → ℕ → (ℕ → Finds) → Option ℕ
full_level_by shape pass finds = find (is_full_by shape pass finds) (range_with_len 1 shape.levels)

-- all scans: at each level, up to the first without an open row
abbrev pub scans_by : Shape → Kind → ℕ → (ℕ → Finds) → List Move
scans_by shape kind pass finds = flat_map (λ level. level_scans_by shape kind pass (finds level) level) (up_to (is_full_by shape pass finds) (range_with_len 1 shape.levels))

-- a call's first three steps at its leaf
abbrev pub first_steps : Kind → ℕ → List Move
first_steps kind amount = See kind 1 ∷ Announce kind 1 ∷ Arrive kind 1 amount ∷ []

-- the steps by which a call begins: its scans, and where each level has an open row its first three steps at its leaf
abbrev pub begin_moves_by : Shape → ℕ → Kind → ℕ → (ℕ → Finds) → List Move
begin_moves_by shape pass kind amount finds = scans_by shape kind pass finds ++ (if is_none (full_level_by shape pass finds) then first_steps kind amount else [])

-- In one state: what a beginning finds at a level, where nobody comes between
abbrev pub finds_in : Start → State → Kind → ℕ → ℕ → Finds
finds_in start s kind pass level = record { ends = λ n. row_end start s kind level pass n; words = λ n q. word start s (Announcement q kind level) }

abbrev pub blocks : Start → State → Kind → ℕ → ℕ → ℕ → Bool
blocks start s kind level end q = blocks_by (λ x. word start s (Announcement x kind level)) end q

abbrev pub blocker : Start → State → Kind → ℕ → ℕ → ℕ → Option ℕ
blocker start s kind level pass end = blocker_by start.shape level pass (λ x. word start s (Announcement x kind level)) end

abbrev pub scanned : Start → State → Kind → ℕ → ℕ → ℕ → List ℕ
scanned start s kind level pass end = scanned_by start.shape level pass (λ x. word start s (Announcement x kind level)) end

abbrev pub is_open : Start → State → Kind → ℕ → ℕ → ℕ → Bool
is_open start s kind level pass n = is_open_by start.shape level pass (finds_in start s kind pass level) n

abbrev pub rows_tried : Start → State → Kind → ℕ → ℕ → List ℕ
rows_tried start s kind level pass = rows_tried_by start.shape level pass (finds_in start s kind pass level)

abbrev pub has_open : Start → State → Kind → ℕ → ℕ → Bool
has_open start s kind pass level = has_open_by start.shape level pass (finds_in start s kind pass level)

abbrev pub row_scans : Start → State → Kind → ℕ → ℕ → ℕ → List Move
row_scans start s kind level pass n = row_scans_by start.shape kind level pass (finds_in start s kind pass level) n

abbrev pub level_scans : Start → State → Kind → ℕ → ℕ → List Move
level_scans start s kind pass level = level_scans_by start.shape kind pass (finds_in start s kind pass level) level

abbrev pub is_full : Start → State → Kind → ℕ → ℕ → Bool
is_full start s kind pass level = is_full_by start.shape pass (finds_in start s kind pass) level

abbrev pub full_level : Start → State → Kind → ℕ → Option ℕ
full_level start s kind pass = full_level_by start.shape pass (finds_in start s kind pass)

abbrev pub scans : Start → State → Kind → ℕ → List Move
scans start s kind pass = scans_by start.shape kind pass (finds_in start s kind pass)

abbrev pub begin_moves : Start → State → ℕ → Kind → ℕ → List Move
begin_moves start s pass kind amount = begin_moves_by start.shape pass kind amount (finds_in start s kind pass)

-- the load by which another pass blocks a row
abbrev pub blocked_by : Start → State → Kind → ℕ → ℕ → ℕ → Blocked
blocked_by start s kind level row other = record { level = level; row = row; pass = other; announced = word start s (Announcement other kind level) - 1 }

-- the last load that blocked a row of a level without an open row
abbrev pub blocked_at : Start → State → Kind → ℕ → ℕ → Blocked
blocked_at start s kind pass level =
    let row = start.shape.rows - 1 in
    blocked_by start s kind level row (unwrap_or (blocker start s kind level pass (row_end start s kind level pass row)) 0)

-- the load that refuses the call
abbrev pub refusal : Start → State → Kind → ℕ → Option Blocked
refusal start s kind pass = option_map (blocked_at start s kind pass) (full_level start s kind pass)

-- what the beginning of a call answers, by the load that refuses it
abbrev pub begun_by : Option Blocked → CoreBegun
begun_by None = Waiting
begun_by (Some blocked) = NoRow blocked

-- what the beginning of a call answers: it waits, or the first level without an open row refuses it
abbrev pub begun : Start → State → ℕ → Kind → CoreBegun
begun start s pass kind = begun_by (refusal start s kind pass)

-- the pass's steps as events
abbrev pub events_of : ℕ → List Move → List Event
events_of pass steps = map (λ step. record { pass = pass; step = step }) steps

-- one of these steps loads this number, announced by another pass, and it is below the end of the pass's n-th row
pub record IsHeld (start : Start) (s : State) (pass : ℕ) (kind : Kind) (steps : List Move) (level n other announced : ℕ) : Type 0 where
  pub loaded : Contains steps (Scan kind level other)
  pub another : other ≢ pass
  pub word_is : word start s (Announcement other kind level) ≡ suc announced
  pub below : announced < row_end start s kind level pass n

-- at this level each of the pass's rows is held by a load of these steps, and the last of them is this one
pub record IsBlocked (start : Start) (s : State) (pass : ℕ) (kind : Kind) (steps : List Move) (at : Blocked) : Type 0 where
  pub level : IsLevel start.shape at.level
  pub each : (n : ℕ) → n < start.shape.rows → (other announced : ℕ) × IsHeld start s pass kind steps at.level n other announced
  pub row : at.row < start.shape.rows
  pub held : IsHeld start s pass kind steps at.level at.row at.pass at.announced
  pub last : (earlier : List Move) × (steps ≡ earlier ++ Scan kind at.level at.pass ∷ [])

-- the pass's call has arrived at its leaf, and waits there
pub record WaitsAtLeaf (core : CoreLog) (pass : ℕ) (kind : Kind) : Type 0 where
  pub call : HasCall core pass
  pub position : ((state_in core).callers pass).position ≡ Climbing kind 1
  pub offset : ℕ
  pub waits : stage core.start (state_in core) kind 1 pass ≡ stages.Waiting offset

-- what a beginning spends
abbrev pub spent : CoreBegun → ℕ → ℕ
spent Waiting amount = amount
spent (NoRow at) amount = 0
