-- How the lines of a script are dealt to the passes of a table, and their replies gathered.
--     OpensFor script table      the table opened as the script says
--     lanes_for lines passes      each pass with the orders of its lines
--     AreDone lanes dones      each lane's pass has made its orders, with these replies
--     answers_of pass lines answers      the answers of a pass's lines
--     replies_of replies pass      a pass's replies
use Rattle.std.specs.Prelude.{◌≡◌, ℕ, ◌==◌, List, [], map, filter, slice_index_or}
use Rattle.std.specs.List.{AllZip, zip}
use Rattle.fn_core.specs.Calls.{newly_opened}
use Rattle.fn_core.specs.Machine.{no_cap}
use Rattle.fn_table.specs.Seen.{TableView, PassView}
use Rattle.script_text.specs.Sound.{allowances}
use Rattle.script_text.specs.declared.scripts.Script.{Script}
use Rattle.script_text.specs.declared.scripts.ScriptLine.{ScriptLine}
use Rattle.fn_rounds.specs.declared.lanes.Lane.{Lane}
use Rattle.fn_rounds.specs.declared.lanes.LaneDone.{LaneDone}
use Rattle.fn_rounds.specs.InOrder.{MadeInOrder}
use Rattle.fn_rounds.specs.Script.{orders_of}

-- the table opened as the script says
abbrev pub OpensFor : Script → TableView → Type 0
OpensFor script t = t.start ≡ (newly_opened script.shape script.opening no_cap (allowances script.lines script.shape.passes)).start

-- a pass with the orders of its lines
abbrev pub lane_for : List ScriptLine → PassView → Lane
lane_for lines p = record { pass = p; orders = orders_of p.number lines }

-- each pass with the orders of its lines
abbrev pub lanes_for : List ScriptLine → List PassView → List Lane
lanes_for lines passes = map (lane_for lines) passes

-- the pass of a lane has made exactly its orders, in order, with these replies
abbrev pub IsDone : Lane → LaneDone → Type 0
IsDone lane done = MadeInOrder lane.pass lane.orders done.replies done.pass

-- .. and so of all lanes
abbrev pub AreDone : List Lane → List LaneDone → Type 0
AreDone = AllZip IsDone

-- of the answers of lines, those of a pass's lines, in order
abbrev pub answers_of : ℕ → List ScriptLine → List ℕ → List ℕ
answers_of pass lines answers = map (λ a. a.1) (filter (λ a. a.0.pass == pass) (zip lines answers))

-- the replies of a pass
abbrev pub replies_of : List (List ℕ) → ℕ → List ℕ
replies_of replies pass = slice_index_or replies pass []
