use Rattle.std.proofs.Common.{◌≡◌, map}
use Rattle.std.specs.List.{range_with_len}
use Rattle.trace_text.specs.Trace.{content}
use Rattle.picture_report.specs.Told.{heading_at}
use Rattle.picture_report.proofs.headings.headings_of.Given as goal

abbrev pub invariant-loop-i : goal.invariant-loop-i
invariant-loop-i l = l.headings.items ≡ map (heading_at (content l.fn.trace) l.fn.report.answers.items l.fn.report.finals.items) (range_with_len 0 l.i)
