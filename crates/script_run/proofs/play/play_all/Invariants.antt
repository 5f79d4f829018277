use Rattle.std.proofs.Common.{◌≡◌, drop}
use Rattle.script_run.specs.Doing.{IsReady, onto}
use Rattle.script_run.specs.Play.{play_lines}
use Rattle.script_run.proofs.play.play_all.Given as goal

abbrev pub invariant-loop-line : goal.invariant-loop-line
invariant-loop-line l = record {
  so_far : onto l.fn.text.items (play_lines l.fn.core l.lines) ≡ onto l.text.items (play_lines l.core (drop l.line-index l.lines));
  ready : IsReady l.core (drop l.line-index l.lines);
  start : l.core.start ≡ l.fn.core.start;
}
