use Rattle.std.proofs.Common.{◌≡◌, take}
use Rattle.std.specs.List.{enumerate_from, flat_map}
use Rattle.trace_text.specs.Trace.{content}
use Rattle.picture_run.specs.Texts.{tenant_line}
use Rattle.picture_run.proofs.texts.lines_text.Given as goal

abbrev pub invariant-loop-i : goal.invariant-loop-i
invariant-loop-i l =
    l.text.items ≡ flat_map (tenant_line (content l.fn.trace) l.fn.report.answers.items l.fn.report.finals.items) (take l.i (enumerate_from 0 l.tenants))
