use Rattle.std.proofs.Common.{ℕ, subst}
use Rattle.trace_text.specs.Records.{records_of}
use Rattle.trace_text.specs.Trace.{content}
use Rattle.trace_text.specs.TraceGrammar.{IsTrace}
use Rattle.picture_run.specs.Streams.{reading}
use Rattle.picture_run.proofs.Drawing.{drawn}
use Rattle.picture_run.proofs.runs.draw_picture.Goals as goal

pub returns-in-Ok-clause-drawn : goal.returns-in-Ok-clause-drawn
returns-in-Ok-clause-drawn g c =
    let found = c.in-Ok.ensures.gives.0 in
    let P : ℕ → Type 0 = λ workers. IsTrace workers (records_of found.0) (content c.in-Ok.known) in
    drawn c.args.picture.now (reading (g.T.Source.left c.args.trace.now) (g.T.Source.left c.trace_from.new.source) (g.T.Source.faults c.args.trace.now) (g.T.Source.faults c.trace_from.new.source))
    (reading (g.S.Source.left c.args.report.now) (g.S.Source.left c.draw_known.new.report) (g.S.Source.faults c.args.report.now) (g.S.Source.faults c.draw_known.new.report))
    (content c.in-Ok.known) c.draw_known.result (found.0, found.1, subst P c.workers.ensures found.2) c.draw_known.ensures.drawn
