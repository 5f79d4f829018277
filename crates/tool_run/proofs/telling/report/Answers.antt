use Rattle.std.proofs.Common.{◌∙◌, map, ap}
use Rattle.trace_text.specs.Trace.{content}
use Rattle.replay_run.specs.Replay.{value_in}
use Rattle.tool_run.proofs.Counts.{replay-has_answers}
use Rattle.tool_run.proofs.telling.report.Goals as goal

pub report_text-requires : goal.report_text-requires
report_text-requires g c =
    let values = c.deref-3.ensures.value ∙ c.in_ok-finals.ensures ∙ ap (map value_in) c.deref.ensures.value in
    rw c.deref-2.ensures.value (replay-has_answers c.args.workers (content c.args.trace.now) c.in_ok-answers.field-0.answers.items (map value_in c.in_ok-answers.field-0.books.items) c.deref-3.result.now c.requires.sound c.in_ok-answers.ensures.told values)
