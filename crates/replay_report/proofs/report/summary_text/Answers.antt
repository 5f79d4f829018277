use Rattle.std.proofs.Common.{◌≡◌, length, get_or, ap, arith, rules, sym, ◌∙◌}
use Rattle.std.specs.List.{zip}
use Rattle.replay_report.specs.Report.{added_to, summary_line, taken_from}
use Rattle.replay_report.proofs.Segments.{summary-is}
use Rattle.replay_report.proofs.report.summary_text.Goals as goal

pub returns : goal.returns
returns c =
    let trace = c.args.trace.now in
    let answers = c.args.answers.now in
    let added : c.index-2.result.now.added ≡ added_to 0 (zip trace.rows.items answers) =
    (let each = c.in_ok-sums.ensures.added 0 c.index-2.result.now (omega arith) in ap (λ s. s.added) c.index-2.ensures ∙ each ∙ ap (λ rows. added_to 0 (zip rows answers)) c.deref.ensures.value) in
    let taken : c.index-2.result.now.taken ≡ taken_from 0 (zip trace.rows.items answers) =
    (let each = c.in_ok-sums.ensures.taken 0 c.index-2.result.now (omega arith) in ap (λ s. s.taken) c.index-2.ensures ∙ each ∙ ap (λ rows. taken_from 0 (zip rows answers)) c.deref.ensures.value) in
    let text : c.push_summary.new.text.items ≡ summary_line (length trace.rows.items) c.args.workers c.index.result.now.opening c.index-2.result.now.added c.index-2.result.now.taken (get_or c.args.finals.now (length trace.cuts.items) 0) = search rules in
    let is = summary-is c.args.workers (length trace.cuts.items) trace.rows.items answers trace.tenants.items c.args.finals.now c.index.result.now c.requires.answered.rows c.requires.alone c.requires.answered.segments in
    text ∙ rw (added, taken, c.index.ensures) (sym is)
