use Rattle.std.proofs.Common.{◌≡◌, ◌<◌, length, ap, ◌∙◌, arith, rules}
use Rattle.std.proofs.lemmas.List.{take_all}
use Rattle.std.specs.List.{zip}
use Rattle.replay_report.proofs.Lines.{length-zip}
use Rattle.picture_report.specs.Told.{marks_at}
use Rattle.picture_report.proofs.Marked.{mark-more, mark-other, no_answer, no_row}
use Rattle.picture_report.proofs.marking.marks_of.Goals as goal
use Rattle.picture_report.proofs.marking.marks_of.Goals.{then-row-tenant+in_ok-push, else-row-tenant}

pub loop-i-preserved : goal.loop-i-preserved
loop-i-preserved c =
    let within : c.loop-i.i < length c.as_slice-rows.result.now = search rules in
    let same : length c.args.answers.now ≡ length c.as_slice-rows.result.now = search rules in
    elim c.if-row-tenant.branch [
      | then-row-tenant+in_ok-push w ↦
          let more = mark-more c.args.tenant c.as_slice-rows.result.now c.args.answers.now c.loop-i.i no_row no_answer within same w.if-row-tenant.true in
          cc (w.marks-is, w.in_ok-push.ensures.items, w.mark_of.ensures, c.loop-i.invariant, more)
      | else-row-tenant w ↦
          let more = mark-other c.args.tenant c.as_slice-rows.result.now c.args.answers.now c.loop-i.i no_row no_answer within same w.if-row-tenant.false in
          cc (w.marks-is, c.loop-i.invariant, more)
    ]

pub returns : goal.returns
returns c =
    let same : length c.args.answers.now ≡ length c.as_slice-rows.result.now = search rules in
    let count = length-zip c.as_slice-rows.result.now c.args.answers.now (omega arith) in
    c.loop-i.invariant
    ∙ ap (marks_at c.args.tenant) (take_all c.loop-i.i (zip c.as_slice-rows.result.now c.args.answers.now) (omega arith))
    ∙ ap (λ rows. marks_at c.args.tenant (zip rows c.args.answers.now)) c.as_slice-rows.ensures.value
