use Rattle.tool_words.specs.Asked.{asked}
use Rattle.tool_run.specs.Outcome.{reading, writing}
use Rattle.tool_run.proofs.Complete.{ends-complete}
use Rattle.tool_run.proofs.Preparing.{prepared-accounted, prepared-ends}
use Rattle.tool_run.proofs.runs.run.Goals as goal

pub returns-clause-ends : goal.returns-clause-ends
returns-clause-ends g c =
    let done = c.finish.ensures.ends in
    let ends = prepared-ends (asked c.args.words.now) (reading (g.S.Source.left c.args.source.now) (g.S.Source.left c.prepare-told.new.source) (g.S.Source.faults c.args.source.now) (g.S.Source.faults c.prepare-told.new.source)) (writing (g.K.Sink.held c.args.out.now) (g.K.Sink.held c.finish.new.out) (g.K.Sink.faults c.args.out.now) (g.K.Sink.faults c.finish.new.out) (g.K.Sink.empty_writes c.args.out.now) (g.K.Sink.empty_writes c.finish.new.out)) c.finish.result done.0 c.prepare-told.result c.prepare-told.ensures.prepared done.2 in
    (done.0, done.1, ends, done.3)

pub returns-clause-account : goal.returns-clause-account
returns-clause-account g c =
    let done = c.finish.ensures.ends in
    let account = prepared-accounted (asked c.args.words.now) (reading (g.S.Source.left c.args.source.now) (g.S.Source.left c.prepare-told.new.source) (g.S.Source.faults c.args.source.now) (g.S.Source.faults c.prepare-told.new.source)) (writing (g.K.Sink.held c.args.out.now) (g.K.Sink.held c.finish.new.out) (g.K.Sink.faults c.args.out.now) (g.K.Sink.faults c.finish.new.out) (g.K.Sink.empty_writes c.args.out.now) (g.K.Sink.empty_writes c.finish.new.out)) c.finish.result done.0 c.prepare-told.result c.prepare-told.ensures.prepared done.2 in
    (done.0, done.1, account)

pub returns-clause-complete : goal.returns-clause-complete
returns-clause-complete g c =
    let done = c.finish.ensures.ends in
    let ends = prepared-ends (asked c.args.words.now) (reading (g.S.Source.left c.args.source.now) (g.S.Source.left c.prepare-told.new.source) (g.S.Source.faults c.args.source.now) (g.S.Source.faults c.prepare-told.new.source)) (writing (g.K.Sink.held c.args.out.now) (g.K.Sink.held c.finish.new.out) (g.K.Sink.faults c.args.out.now) (g.K.Sink.faults c.finish.new.out) (g.K.Sink.empty_writes c.args.out.now) (g.K.Sink.empty_writes c.finish.new.out)) c.finish.result done.0 c.prepare-told.result c.prepare-told.ensures.prepared done.2 in
    let account = prepared-accounted (asked c.args.words.now) (reading (g.S.Source.left c.args.source.now) (g.S.Source.left c.prepare-told.new.source) (g.S.Source.faults c.args.source.now) (g.S.Source.faults c.prepare-told.new.source)) (writing (g.K.Sink.held c.args.out.now) (g.K.Sink.held c.finish.new.out) (g.K.Sink.faults c.args.out.now) (g.K.Sink.faults c.finish.new.out) (g.K.Sink.empty_writes c.args.out.now) (g.K.Sink.empty_writes c.finish.new.out)) c.finish.result done.0 c.prepare-told.result c.prepare-told.ensures.prepared done.2 in
    ends-complete (asked c.args.words.now) (reading (g.S.Source.left c.args.source.now) (g.S.Source.left c.prepare-told.new.source) (g.S.Source.faults c.args.source.now) (g.S.Source.faults c.prepare-told.new.source)) (writing (g.K.Sink.held c.args.out.now) (g.K.Sink.held c.finish.new.out) (g.K.Sink.faults c.args.out.now) (g.K.Sink.faults c.finish.new.out) (g.K.Sink.empty_writes c.args.out.now) (g.K.Sink.empty_writes c.finish.new.out)) c.finish.result done.0 ends account done.1
