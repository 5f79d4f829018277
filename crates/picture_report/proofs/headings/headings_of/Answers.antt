use Rattle.std.proofs.Common.{◌≡◌, ◌<◌, ◌-◌, ◌*◌, length, get_or, ap, drop, take, refl, ◌∙◌, arith, rules}
use Rattle.std.proofs.lemmas.List.{get_or_default}
use Rattle.std.proofs.lemmas.List.FromFn.{map-range_with_len_more}
use Rattle.std.specs.List.{zip}
use Rattle.trace_text.specs.Trace.{content}
use Rattle.trace_text.specs.declared.traces.Tenant.{Tenant}
use Rattle.replay_report.specs.Report.{added_to, taken_from, values_from}
use Rattle.replay_report.proofs.Segments.{rest-all}
use Rattle.replay_report.specs.declared.sums.Sums.{Sums}
use Rattle.picture_report.specs.Told.{heading_at, opening_at}
use Rattle.picture_report.proofs.Headed.{headed-same, no_tenant}
use Rattle.picture_report.proofs.headings.headings_of.Goals as goal

pub loop-i-preserved : goal.loop-i-preserved
loop-i-preserved c =
    let trace = c.args.trace.now in
    let answers = c.args.report.now.answers.items in
    let finals = c.args.report.now.finals.items in
    let each = heading_at (content c.args.trace.now) c.args.report.now.answers.items c.args.report.now.finals.items in
    let i = c.loop-i.i in
    let tenant = c.index-tenants-i.result in
    let within : c.loop-i.i < length c.as_slice-tenants.result.now = search rules in
    let opening : tenant.opening ≡ opening_at trace.tenants.items i =
    (ap (λ (t : Tenant). t.opening) (c.index-tenants-i.is ∙ get_or_default c.as_slice-tenants.result.now i tenant no_tenant within ∙ ap (λ ts. get_or ts i no_tenant) c.as_slice-tenants.ensures.value)) in
    let added : c.index.result.now.added ≡ added_to i (zip trace.rows.items answers) =
    (ap (λ (s : Sums). s.added) c.index.ensures ∙ c.in_ok-sums.ensures.added i c.index.result.now within
    ∙ ap (λ rows. added_to i (zip rows c.deref-2.result.now)) c.deref.ensures.value ∙ ap (λ moved. added_to i (zip trace.rows.items moved)) c.deref-2.ensures.value) in
    let taken : c.index.result.now.taken ≡ taken_from i (zip trace.rows.items answers) =
    (ap (λ (s : Sums). s.taken) c.index.ensures ∙ c.in_ok-sums.ensures.taken i c.index.result.now within
    ∙ ap (λ rows. taken_from i (zip rows c.deref-2.result.now)) c.deref.ensures.value ∙ ap (λ moved. taken_from i (zip trace.rows.items moved)) c.deref-2.ensures.value) in
    let cuts : c.len.result ≡ length trace.cuts.items = search rules in
    let from = c.len.result * length c.as_slice-tenants.result.now in
    let last : get_or (take (length c.deref-3.result.now - from) (drop from c.deref-3.result.now)) i 0 ≡ get_or (values_from trace.tenants.items finals (length trace.cuts.items)) i 0 =
    (ap (λ xs. get_or xs i 0) (rest-all from c.deref-3.result.now) ∙ rw (cuts, c.as_slice-tenants.ensures.value, c.deref-3.ensures.value) refl) in
    let here : c.heading.result ≡ each i =
    (c.heading.ensures
    ∙ headed-same tenant.opening (opening_at trace.tenants.items i) c.index.result.now.added (added_to i (zip trace.rows.items answers)) c.index.result.now.taken (taken_from i (zip trace.rows.items answers))
    (get_or (take (length c.deref-3.result.now - from) (drop from c.deref-3.result.now)) i 0) (get_or (values_from trace.tenants.items finals (length trace.cuts.items)) i 0) opening added taken last) in
    let more = map-range_with_len_more each 0 i i (omega arith) in
    cc (c.in_ok-push.ensures.items, here, c.loop-i.invariant, more)
