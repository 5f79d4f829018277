use Rattle.std.proofs.Common.{◌≡◌, ◌<◌, ◌++◌, Vec, Global, length, get_or, arith, rules, ap, ◌∙◌, zero-add}
use Rattle.std.proofs.lemmas.List.{take_all}
use Rattle.std.proofs.lemmas.List.FromFn.{get_or-map-range_with_len, length-enumerate_from, length-map-range_with_len}
use Rattle.std.specs.List.{enumerate_from, flat_map}
use Rattle.trace_text.specs.Trace.{content}
use Rattle.picture_line.specs.Line.{line}
use Rattle.picture_marks.specs.declared.marks.Mark.{Mark}
use Rattle.picture_report.specs.Told.{heading_at, marks_at}
use Rattle.replay_report.specs.Report.{answered}
use Rattle.picture_run.specs.Texts.{tenant_line}
use Rattle.picture_run.proofs.TenantLines.{lines-more, marks-count, marks-here}
use Rattle.picture_run.proofs.texts.lines_text.Goals as goal

pub index-requires : goal.index-requires
index-requires c =
    let trace = content c.args.trace.now in
    let all = length-map-range_with_len (heading_at trace c.args.report.now.answers.items c.args.report.now.finals.items) 0 (length c.args.trace.now.tenants.items) in
    let count : length c.in_ok-headings.headings.items ≡ length c.args.trace.now.tenants.items = ap length c.in_ok-headings.ensures ∙ all in
    let same : length c.as_slice-tenants.result.now ≡ length c.args.trace.now.tenants.items = ap length c.as_slice-tenants.ensures.value in
    let within : c.loop-i.i < length c.in_ok-headings.headings.items = omega arith in
    search rules

pub index-requires-in-loop-i : goal.index-requires-in-loop-i
index-requires-in-loop-i c =
    let lines = answered (content c.args.trace.now) c.deref.result.now in
    let view = λ (list : Vec Mark Global). list.items in
    let count : length c.in_ok-marks.marks.items ≡ length c.args.trace.now.tenants.items = marks-count view c.in_ok-marks.marks.items (length c.args.trace.now.tenants.items) lines c.in_ok-marks.ensures in
    let same : length c.as_slice-tenants.result.now ≡ length c.args.trace.now.tenants.items = ap length c.as_slice-tenants.ensures.value in
    let within : c.loop-i.i < length c.in_ok-marks.marks.items = omega arith in
    search rules

pub loop-i-preserved : goal.loop-i-preserved
loop-i-preserved c =
    let trace = content c.args.trace.now in
    let answers = c.args.report.now.answers.items in
    let finals = c.args.report.now.finals.items in
    let tenants = c.as_slice-tenants.result.now in
    let same : length c.as_slice-tenants.result.now ≡ length c.args.trace.now.tenants.items = ap length c.as_slice-tenants.ensures.value in
    let within : c.loop-i.i < length c.as_slice-tenants.result.now = search rules in
    let less : c.loop-i.i < length c.args.trace.now.tenants.items = omega arith in
    let each = get_or-map-range_with_len (heading_at trace answers finals) 0 (length c.args.trace.now.tenants.items) c.loop-i.i c.loop-i.i c.index.result.now less (zero-add c.loop-i.i) in
    let headed : c.index.result.now ≡ heading_at trace answers finals c.loop-i.i = c.index.ensures ∙ ap (λ hs. get_or hs c.loop-i.i c.index.result.now) c.in_ok-headings.ensures ∙ each in
    let view = λ (list : Vec Mark Global). list.items in
    let lists = marks-here view c.in_ok-marks.marks.items (length c.args.trace.now.tenants.items) (answered trace c.deref.result.now) c.loop-i.i c.index-in-loop-i.result.now less c.in_ok-marks.ensures c.index-in-loop-i.ensures in
    let marked : c.index-in-loop-i.result.now.items ≡ marks_at c.loop-i.i (answered trace answers) = lists ∙ ap (λ all. marks_at c.loop-i.i (answered trace all)) c.deref.ensures.value in
    let grown : c.line_text.new.text.items ≡ c.loop-i.text.items ++ line c.index-tenants-i.result.name c.index.result.now c.index-in-loop-i.result.now.items = search rules in
    lines-more trace answers finals tenants c.loop-i.i c.index-tenants-i.result c.index.result.now c.index-in-loop-i.result.now.items c.loop-i.text.items c.line_text.new.text.items
    within c.index-tenants-i.is headed marked c.loop-i.invariant grown

pub returns : goal.returns
returns c =
    let f = tenant_line (content c.args.trace.now) c.args.report.now.answers.items c.args.report.now.finals.items in
    let count = length-enumerate_from 0 c.as_slice-tenants.result.now in
    c.loop-i.invariant ∙ ap (flat_map f) (take_all c.loop-i.i (enumerate_from 0 c.as_slice-tenants.result.now) (omega arith)) ∙ ap (λ ts. flat_map f (enumerate_from 0 ts)) c.as_slice-tenants.ensures.value
