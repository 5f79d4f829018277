use Rattle.std.proofs.Common.{◌≡◌, ◌<◌, ◌++◌, length, get_or, arith, rules, ◌∙◌, ap, zero-add}
use Rattle.std.specs.List.{enumerate_from, zip}
use Rattle.std.proofs.lemmas.List.FromFn.{get_or-enumerate_from, length-enumerate_from}
use Rattle.trace_text.specs.Trace.{content}
use Rattle.replay_report.specs.Report.{added_to, answered, taken_from, total_line, total_text}
use Rattle.replay_report.proofs.Lines.{pair-end, pair-more}
use Rattle.replay_report.proofs.report.push_totals.Goals as goal

pub loop-i-preserved : goal.loop-i-preserved
loop-i-preserved c =
    let tenants = c.as_slice-tenants.result.now in
    let tenant = c.index-tenants-i.result in
    let lines = answered (content c.args.trace.now) c.args.answers.now in
    let count = length-enumerate_from 0 tenants in
    let within : c.loop-i.i < length c.as_slice-tenants.result.now = search rules in
    let here = get_or-enumerate_from 0 tenants c.loop-i.i (0, tenant) within in
    let added : c.index.result.now.added ≡ added_to c.loop-i.i lines =
    (let each = c.in_ok-sums.ensures.added c.loop-i.i c.index.result.now within in ap (λ s. s.added) c.index.ensures ∙ each ∙ ap (λ rows. added_to c.loop-i.i (zip rows c.args.answers.now)) c.deref.ensures.value) in
    let taken : c.index.result.now.taken ≡ taken_from c.loop-i.i lines =
    (let each = c.in_ok-sums.ensures.taken c.loop-i.i c.index.result.now within in ap (λ s. s.taken) c.index.ensures ∙ each ∙ ap (λ rows. taken_from c.loop-i.i (zip rows c.args.answers.now)) c.deref.ensures.value) in
    let grown : c.push_total.new.text.items ≡ c.loop-i.text.items ++ total_text tenant c.index.result.now.added c.index.result.now.taken (get_or c.args.values.now c.loop-i.i 0) = search rules in
    pair-more (total_line lines) (enumerate_from 0 tenants) c.args.values.now c.loop-i.i (0, tenant) 0 c.loop-i.text.items c.push_total.new.text.items _ (omega arith) (search rules)
    (rw (here, zero-add, ← c.index-tenants-i.is, ← added, ← taken) grown) c.loop-i.invariant

pub returns : goal.returns
returns c =
    let tenants = c.as_slice-tenants.result.now in
    let count = length-enumerate_from 0 tenants in
    let all = pair-end (total_line (answered (content c.args.trace.now) c.args.answers.now)) (enumerate_from 0 tenants) c.args.values.now c.loop-i.i c.loop-i.text.items _ (omega arith) (search rules) c.loop-i.invariant in
    rw (← c.as_slice-tenants.ensures.value) all
