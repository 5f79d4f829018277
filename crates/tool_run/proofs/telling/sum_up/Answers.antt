use Rattle.std.proofs.Common.{◌∙◌, map, ap}
use Rattle.trace_text.specs.Trace.{content}
use Rattle.replay_run.specs.Replay.{value_in}
use Rattle.tool_run.proofs.Counts.{replay-has_answers}
use Rattle.tool_run.proofs.telling.sum_up.Goals as goal

pub summary_text-requires-clause-answered : goal.summary_text-requires-clause-answered
summary_text-requires-clause-answered g c =
    let values = c.deref-3.ensures.value ∙ c.in_ok-finals.ensures ∙ ap (map value_in) c.deref.ensures.value in
    rw c.deref-2.ensures.value (replay-has_answers c.args.workers (content c.in_ok-trace.trace) c.in_ok-answers.field-0.answers.items (map value_in c.in_ok-answers.field-0.books.items) c.deref-3.result.now c.in_ok-trace.ensures.sound c.in_ok-answers.ensures.told values)
