use Rattle.std.proofs.Common.{◌≡◌, length, get_or, ap, ◌∙◌, arith}
use Rattle.std.proofs.lemmas.List.FromFn.{get_or-map-range_with_len, length-map-range_with_len}
use Rattle.trace_text.specs.Trace.{content}
use Rattle.picture_report.specs.Told.{heading_at}
use Rattle.picture_report.proofs.headings.heading_of.Goals as goal

pub index-requires : goal.index-requires
index-requires c =
    let each = heading_at (content c.args.trace.now) c.args.report.now.answers.items c.args.report.now.finals.items in
    let all : length c.in_ok-headings.headings.items ≡ length c.args.trace.now.tenants.items = ap length c.in_ok-headings.ensures ∙ length-map-range_with_len each 0 (length c.args.trace.now.tenants.items) in
    grind (arith, all)

pub returns : goal.returns
returns c =
    let each = heading_at (content c.args.trace.now) c.args.report.now.answers.items c.args.report.now.finals.items in
    let d = c.index.result.now in
    c.index.ensures
    ∙ ap (λ headings. get_or headings c.args.tenant d) c.in_ok-headings.ensures
    ∙ get_or-map-range_with_len each 0 (length c.args.trace.now.tenants.items) c.args.tenant c.args.tenant d c.requires.tenant (omega arith)
