-- How a pass stands to itself when it has seen more.
--     IsLater pass after      the same pass, which has seen more
--     StepsAreLater      after a step of its own
--     LaterPassesGoOn, LaterPassesStayAtTheirTable      after more than one, and whose pass it is
use Rattle.std.specs.Prelude.{◌≡◌, ℕ}
use mathlib.Core.List.{IsPrefix}
use Rattle.fn_core.specs.declared.Move.{Move}
use Rattle.fn_core.specs.Calls.{IsLegal}
use Rattle.fn_table.specs.Seen.{TableView, PassView, IsOf, Stepped}

-- the same pass of the same table, whose legal log goes on from the old one
pub record IsLater (p q : PassView) : Type 0 where
  pub table : q.table ≡ p.table
  pub number : q.number ≡ p.number
  pub start : q.seen.start ≡ p.seen.start
  pub begins : IsPrefix p.seen.log q.seen.log
  pub legal : IsLegal q.seen

-- a pass that takes a step has seen more
abbrev pub StepsAreLater : Type 0
StepsAreLater = (p : PassView) (step : Move) (n : ℕ) (q : PassView) → Stepped p step n q → IsLater p q

-- a pass that has seen more than one that had seen more has seen more
abbrev pub LaterPassesGoOn : Type 0
LaterPassesGoOn = (p q r : PassView) → IsLater p q → IsLater q r → IsLater p r

-- it stays a pass of its table
abbrev pub LaterPassesStayAtTheirTable : Type 0
LaterPassesStayAtTheirTable = (table : TableView) (p q : PassView) → IsLater p q → IsOf table p → IsOf table q
