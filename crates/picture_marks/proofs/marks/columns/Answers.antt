use Rattle.std.proofs.Common.{◌≡◌, ◌<◌, ap, ◌∙◌, arith, length, map}
use Rattle.std.proofs.lemmas.Result.{IfOk-weaker}
use Rattle.picture_marks.specs.Marks.{run_length}
use Rattle.picture_marks.proofs.Cuts.{pieces-of}
use Rattle.picture_marks.proofs.marks.columns.Goals as goal

-- the run of the chunks that were collected is of the columns
pub returns : goal.returns
returns c =
    let size = run_length c.args.most (length c.args.marks.now) in
    let some_marks : 0 < size = omega arith in
    IfOk-weaker c.collect.result _ _
    (λ columns given.
    let run = given tt in
    let same_size : run.0.from.size ≡ size = ap (λ s. s.size) run.1 ∙ c.chunks.ensures.size ∙ c.run_length.ensures in
    let same_list = ap (λ s. s.rest.now) run.1 ∙ c.chunks.ensures.rest in
    let facts = c.chunks.ensures.runs run.0 run.0.seen (omega arith) in
    ap (λ items. map (λ column. column.now) items) run.3.0
    ∙ pieces-of run.0.items run.0.at run.0.from.size run.0.len run.0.from.rest.now size c.args.marks.now some_marks same_size same_list run.0.long (facts.1 run.2) run.0.reads facts.2)
    c.collect.ensures.runs
