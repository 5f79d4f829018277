-- What the additions and subtractions of a script come to, where each pass makes those of its own lines.
--     IsChangeOrder order      it is an addition or a subtraction
--     other_order lines      the number of the first line with another order
--     orders_of pass lines      what a pass's lines ask for, in order
--     call_after earlier line      the call of a line behind others
--     AreTold script replies history      the history of a script whose lines got these replies
--     TellsRounds script text history      the text that tells of it
--     IsBookOf script book      the book opened as the script says
use Rattle.std.specs.Prelude.{◌≡◌, ℕ, ◌==◌, Bool, true, false, List, [], ◌∷◌, ◌++◌, Option, Some, None, length, map, filter, take, slice_get, codes, decimal, if◌then◌else◌}
use Rattle.fn_model.specs.declared.Call.{Call}
use Rattle.fn_model.specs.declared.Kind.{Kind}
use Rattle.fn_model.specs.declared.Kind.TheVariants as kind
use Rattle.fn_model.specs.Calls.{own}
use Rattle.fn_model.specs.Integer.{value, Meets}
use Rattle.fn_core.specs.Machine.{no_cap}
use Rattle.fn_core.specs.Calls.{CoreLog, IsLegal, newly_opened}
use Rattle.script_text.specs.Sound.{allowances}
use Rattle.script_text.specs.declared.scripts.Order.{Order}
use Rattle.script_text.specs.declared.scripts.Order.TheVariants.{Add, Sub}
use Rattle.script_text.specs.declared.scripts.Script.{Script}
use Rattle.script_text.specs.declared.scripts.ScriptLine.{ScriptLine}
use Rattle.fn_rounds.specs.InOrder.{call_at, numbered}

-- what an order asks for, where it is an addition or a subtraction
abbrev pub order_of : Order → Kind × ℕ
order_of (Add n) = (kind.Add, n)
order_of (Sub n) = (kind.Sub, n)
order_of _ = (kind.Read, 0)

-- whether an order is an addition or a subtraction
abbrev pub is_change : Order → Bool
is_change (Add n) = true
is_change (Sub n) = true
is_change _ = false

abbrev pub IsChangeOrder : Order → Type 0
IsChangeOrder order = is_change order ≡ true

-- the number of the first line whose order is neither
abbrev pub other_order : List ScriptLine → Option ℕ
other_order [] = None
other_order (line ∷ lines) = if is_change line.order then other_order lines else Some line.at

-- the orders of a pass's lines, in order
abbrev pub orders_of : ℕ → List ScriptLine → List (Kind × ℕ)
orders_of pass lines = map (λ line. order_of line.order) (filter (λ line. line.pass == pass) lines)

-- the call of a line behind others: the next one of its pass
abbrev pub call_after : List ScriptLine → ScriptLine → Call
call_after earlier line = call_at line.pass (length (orders_of line.pass earlier)) (order_of line.order)

-- A history of the script: each pass's calls in it are those of its lines, in order, and there is no other call; and each line's reply is the integer just before its call
pub record AreTold (script : Script) (replies : List ℕ) (history : List Call) : Type 0 where
  pub calls : (pass : ℕ) → own pass history ≡ numbered pass 0 (orders_of pass script.lines)
  pub one_each : length replies ≡ length script.lines
  pub met : (k : ℕ) (line : ScriptLine) (reply : ℕ) → slice_get script.lines k ≡ Some line → slice_get replies k ≡ Some reply
      → Meets no_cap script.opening history (call_after (take k script.lines) line) reply

-- the line that gives a reply
abbrev pub reply_line : ScriptLine → ℕ → List ℕ
reply_line line reply = codes "reply " ++ decimal line.at ++ codes " " ++ decimal reply ++ codes "\n"

-- the lines of replies, in order
abbrev pub reply_lines : List ScriptLine → List ℕ → List ℕ
reply_lines (line ∷ lines) (reply ∷ replies) = reply_line line reply ++ reply_lines lines replies
reply_lines _ _ = []

-- the text: the reply of each line, and the value that the history leaves
abbrev pub TellsRounds : Script → List ℕ → List Call → Type 0
TellsRounds script text history =
    (replies : List ℕ) × AreTold script replies history
    × (text ≡ reply_lines script.lines replies ++ codes "value " ++ decimal (value no_cap script.opening history) ++ codes "\n")

-- the book opened as the script says, and each of its events was allowed
pub record IsBookOf (script : Script) (book : CoreLog) : Type 0 where
  pub legal : IsLegal book
  pub start : book.start ≡ (newly_opened script.shape script.opening no_cap (allowances script.lines script.shape.passes)).start
