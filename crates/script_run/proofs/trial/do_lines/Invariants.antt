use Rattle.std.proofs.Common.{drop, take}
use Rattle.script_run.specs.Slots.{AreFull, TookLines, present}
use Rattle.script_run.proofs.Advance.{After}
use Rattle.script_run.proofs.trial.do_lines.Given as goal

abbrev pub invariant-loop-line : goal.invariant-loop-line
invariant-loop-line l = record {
  took : TookLines (present l.fn.callers) (take l.line-index l.lines) l.fn.text.items (present l.callers) l.text.items;
  full : AreFull l.callers;
  after : After l.table (present l.callers) (drop l.line-index l.lines);
}
