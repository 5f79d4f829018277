-- The laws of passes that have seen more.
use Rattle.std.proofs.Common.{List, [], ◌∷◌, refl, sym, ap, subst, ◌∙◌}
use mathlib.Core.List.{IsPrefix}
use Rattle.running.proofs.Logs.{prefix_refl, prefix_more, prefix_on}
use Rattle.fn_core.specs.declared.Event.{Event}
use Rattle.fn_core.specs.declared.Start.{Start}
use Rattle.fn_core.specs.State.{opened}
use Rattle.fn_core.specs.Machine.{IsStart, Legal}
use Rattle.fn_core.specs.Calls.{IsLegal}
use Rattle.fn_core.proofs.Public.{legal_parts}
use Rattle.fn_table.specs.Seen.{PassView, event}
use Rattle.fn_table.specs.Later.{IsLater, StepsAreLater, LaterPassesGoOn, LaterPassesStayAtTheirTable}

pub later_by : StepsAreLater
later_by p step n q t = record {
  table = ap (λ (v : PassView). v.table) t.now;
  number = ap (λ (v : PassView). v.number) t.now;
  start = ap (λ (v : PassView). v.seen.start) t.now;
  begins = subst (λ (v : PassView). IsPrefix p.seen.log v.seen.log) (sym t.now) (prefix_more p.seen.log t.before (event p.number step ∷ []) t.begins);
  legal = t.legal;
}

pub later_on : LaterPassesGoOn
later_on p q r a b = record { table = b.table ∙ a.table; number = b.number ∙ a.number; start = b.start ∙ a.start; begins = prefix_on p.seen.log q.seen.log r.seen.log a.begins b.begins; legal = b.legal }

pub of_later : LaterPassesStayAtTheirTable
of_later t p q later of = (later.table ∙ of.0, later.start ∙ of.1)

-- a pass has seen what it has seen
pub later_none : (p : PassView) → IsLegal p.seen → IsLater p p
later_none p legal = record { table = refl; number = refl; start = refl; begins = prefix_refl p.seen.log; legal = legal }

-- the log of a pass that has seen more since was legal
pub legal_since : (p q : PassView) → IsLater p q → IsLegal p.seen
legal_since p q later =
    let whole : Legal q.seen.start q.seen.log (opened q.seen.start) = later.legal.1 in
    let first = legal_parts q.seen.start p.seen.log later.begins.0 (opened q.seen.start) (subst (λ (log : List Event). Legal q.seen.start log (opened q.seen.start)) (sym later.begins.1) whole) in
    subst (λ (start : Start). IsStart start × Legal start p.seen.log (opened start)) later.start (later.legal.0, first.0)
