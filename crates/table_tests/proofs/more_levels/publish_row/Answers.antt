use Rattle.std.proofs.Common.{◌∙◌, sym, ap}
use Rattle.fn_model.specs.declared.Kind.TheVariants.{Add}
use Rattle.fn_rows.specs.declared.Field.TheVariants.{Lo, Base, Prev}
use Rattle.fn_layout.specs.declared.shape.Shape.{Shape}
use Rattle.fn_layout.specs.Words.{row_number}
use Rattle.fn_core.specs.Words.{end_by}
use Rattle.table_tests.proofs.Levels.{at_headed, at_filled, at_pointed, at_got, may_fill_lo, may_fill_base, may_fill_prev, may_point, may_publish, word_filled, head_links}
use Rattle.table_tests.proofs.more_levels.publish_row.Goals as goal

pub fill-requires-clause-may : goal.fill-requires-clause-may
fill-requires-clause-may c =
    let t = c.args.table.now in
    let n = c.args.number in
    let l = c.args.level in
    let row = c.row_of-row.result in
    let under = c.args.under.now in
    let mine = c.row_of-row.ensures.exact ∙ ap (λ (s : Shape). row_number s n Add l 0) c.shape-shape.ensures in
    let headed = at_headed t n _ _ l _ under _ _ _ c.requires.based c.head-link.ensures in
    may_fill_lo t n _ l under row mine _ _ _ _ (sym c.row_end-used.ensures ∙ c.if-used-ne0.false) headed

pub fill-requires-clause-word : goal.fill-requires-clause-word
fill-requires-clause-word c =
    let t = c.args.table.now in
    let n = c.args.number in
    let l = c.args.level in
    let row = c.row_of-row.result in
    let under = c.args.under.now in
    let mine = c.row_of-row.ensures.exact ∙ ap (λ (s : Shape). row_number s n Add l 0) c.shape-shape.ensures in
    let headed = at_headed t n _ _ l _ under _ _ _ c.requires.based c.head-link.ensures in
    sym (word_filled t n _ l _ under headed Lo)

pub fill-requires-2-clause-may : goal.fill-requires-2-clause-may
fill-requires-2-clause-may c =
    let t = c.args.table.now in
    let n = c.args.number in
    let l = c.args.level in
    let row = c.row_of-row.result in
    let under = c.args.under.now in
    let mine = c.row_of-row.ensures.exact ∙ ap (λ (s : Shape). row_number s n Add l 0) c.shape-shape.ensures in
    let headed = at_headed t n _ _ l _ under _ _ _ c.requires.based c.head-link.ensures in
    let lo = at_filled t n _ _ l _ under row Lo _ headed c.fill.ensures.1 in
    may_fill_base t n _ l under row mine _ _ _ _ lo

pub fill-requires-2-clause-word : goal.fill-requires-2-clause-word
fill-requires-2-clause-word c =
    let t = c.args.table.now in
    let n = c.args.number in
    let l = c.args.level in
    let row = c.row_of-row.result in
    let under = c.args.under.now in
    let mine = c.row_of-row.ensures.exact ∙ ap (λ (s : Shape). row_number s n Add l 0) c.shape-shape.ensures in
    let headed = at_headed t n _ _ l _ under _ _ _ c.requires.based c.head-link.ensures in
    let lo = at_filled t n _ _ l _ under row Lo _ headed c.fill.ensures.1 in
    sym (word_filled t n _ l _ under lo Base)

pub fill-requires-3-clause-may : goal.fill-requires-3-clause-may
fill-requires-3-clause-may c =
    let t = c.args.table.now in
    let n = c.args.number in
    let l = c.args.level in
    let row = c.row_of-row.result in
    let under = c.args.under.now in
    let mine = c.row_of-row.ensures.exact ∙ ap (λ (s : Shape). row_number s n Add l 0) c.shape-shape.ensures in
    let headed = at_headed t n _ _ l _ under _ _ _ c.requires.based c.head-link.ensures in
    let lo = at_filled t n _ _ l _ under row Lo _ headed c.fill.ensures.1 in
    let base = at_filled t n _ _ l _ under row Base _ lo c.fill-2.ensures.1 in
    may_fill_prev t n _ l under row mine _ _ _ _ base

pub fill-requires-3-clause-word : goal.fill-requires-3-clause-word
fill-requires-3-clause-word c =
    let t = c.args.table.now in
    let n = c.args.number in
    let l = c.args.level in
    let row = c.row_of-row.result in
    let under = c.args.under.now in
    let mine = c.row_of-row.ensures.exact ∙ ap (λ (s : Shape). row_number s n Add l 0) c.shape-shape.ensures in
    let headed = at_headed t n _ _ l _ under _ _ _ c.requires.based c.head-link.ensures in
    let lo = at_filled t n _ _ l _ under row Lo _ headed c.fill.ensures.1 in
    let base = at_filled t n _ _ l _ under row Base _ lo c.fill-2.ensures.1 in
    sym (word_filled t n _ l _ under base Prev ∙ head_links t n _ _ l _ _ under c.requires.based c.head-link.ensures)

pub point-requires-clause-may : goal.point-requires-clause-may
point-requires-clause-may c =
    let t = c.args.table.now in
    let n = c.args.number in
    let l = c.args.level in
    let row = c.row_of-row.result in
    let under = c.args.under.now in
    let mine = c.row_of-row.ensures.exact ∙ ap (λ (s : Shape). row_number s n Add l 0) c.shape-shape.ensures in
    let headed = at_headed t n _ _ l _ under _ _ _ c.requires.based c.head-link.ensures in
    let lo = at_filled t n _ _ l _ under row Lo _ headed c.fill.ensures.1 in
    let base = at_filled t n _ _ l _ under row Base _ lo c.fill-2.ensures.1 in
    let prev = at_filled t n _ _ l _ under row Prev _ base c.fill-3.ensures.1 in
    may_point t n _ l under row mine _ _ _ prev

pub publish-requires-clause-may : goal.publish-requires-clause-may
publish-requires-clause-may c =
    let t = c.args.table.now in
    let n = c.args.number in
    let l = c.args.level in
    let row = c.row_of-row.result in
    let under = c.args.under.now in
    let mine = c.row_of-row.ensures.exact ∙ ap (λ (s : Shape). row_number s n Add l 0) c.shape-shape.ensures in
    let headed = at_headed t n _ _ l _ under _ _ _ c.requires.based c.head-link.ensures in
    let lo = at_filled t n _ _ l _ under row Lo _ headed c.fill.ensures.1 in
    let base = at_filled t n _ _ l _ under row Base _ lo c.fill-2.ensures.1 in
    let prev = at_filled t n _ _ l _ under row Prev _ base c.fill-3.ensures.1 in
    let pointed = at_pointed t n _ _ l _ under _ _ _ _ row prev c.point.ensures.1 in
    may_publish t n _ l under _ _ _ _ pointed

pub publish-requires-clause-end : goal.publish-requires-clause-end
publish-requires-clause-end c =
    let t = c.args.table.now in
    let n = c.args.number in
    let l = c.args.level in
    let row = c.row_of-row.result in
    let under = c.args.under.now in
    let mine = c.row_of-row.ensures.exact ∙ ap (λ (s : Shape). row_number s n Add l 0) c.shape-shape.ensures in
    let headed = at_headed t n _ _ l _ under _ _ _ c.requires.based c.head-link.ensures in
    let lo = at_filled t n _ _ l _ under row Lo _ headed c.fill.ensures.1 in
    let base = at_filled t n _ _ l _ under row Base _ lo c.fill-2.ensures.1 in
    let prev = at_filled t n _ _ l _ under row Prev _ base c.fill-3.ensures.1 in
    let pointed = at_pointed t n _ _ l _ under _ _ _ _ row prev c.point.ensures.1 in
    sym (ap end_by pointed.stage)

pub returns : goal.returns
returns c =
    let t = c.args.table.now in
    let n = c.args.number in
    let l = c.args.level in
    let row = c.row_of-row.result in
    let under = c.args.under.now in
    let mine = c.row_of-row.ensures.exact ∙ ap (λ (s : Shape). row_number s n Add l 0) c.shape-shape.ensures in
    let headed = at_headed t n _ _ l _ under _ _ _ c.requires.based c.head-link.ensures in
    let lo = at_filled t n _ _ l _ under row Lo _ headed c.fill.ensures.1 in
    let base = at_filled t n _ _ l _ under row Base _ lo c.fill-2.ensures.1 in
    let prev = at_filled t n _ _ l _ under row Prev _ base c.fill-3.ensures.1 in
    let pointed = at_pointed t n _ _ l _ under _ _ _ _ row prev c.point.ensures.1 in
    record { got = at_got t n _ _ l _ under _ _ _ _ pointed c.publish.ensures.1 }
