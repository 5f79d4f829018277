use Rattle.std.proofs.Common.{arith, rules, ◌<◌, length, refl}
use Rattle.std.proofs.lemmas.Result.{on_ok_weaker}
use Rattle.trace_text.specs.declared.traces.Cut.{Cut}
use Rattle.replay_report.proofs.Segments.{cuts-within, next-cut, segment-more, segments-end}
use Rattle.replay_report.proofs.report.push_segments.Goals as goal

abbrev no_cut : Cut
no_cut = record { at = 0; rows = 0 }

pub loop-segment-init : goal.loop-segment-init
loop-segment-init c = record { within = omega arith; rise = rw (c.as_slice-rows.ensures.value, c.as_slice-cuts.ensures.value) c.requires.cuts; text = refl }

pub loop-segment-preserved : goal.loop-segment-preserved
loop-segment-preserved c =
    let rows = c.as_slice-rows.result.now in
    let cuts = c.as_slice-cuts.result.now in
    let tenants = c.as_slice-tenants.result.now in
    let within : c.loop-segment.segment < length c.as_slice-cuts.result.now = search rules in
    let next = next-cut c.loop-segment.before (length rows) c.loop-segment.segment cuts no_cut within c.loop-segment.invariant.rise in
    record {
      within = cuts-within _ _ _ next.1;
      rise = next.1;
      text = segment-more tenants c.args.finals.now rows c.args.answers.now (length rows) c.loop-segment.segment c.loop-segment.before cuts no_cut c.loop-segment.text.items c.push_rows.new.text.items c.push_settled.new.text.items _ within c.loop-segment.invariant.rise
          c.in_ok-push_rows.ensures c.in_ok-push_settled.ensures c.loop-segment.invariant.text;
    }

pub slice_bounds-push_rows-end : goal.slice_bounds-push_rows-end
slice_bounds-push_rows-end c =
    let within : c.loop-segment.segment < length c.as_slice-cuts.result.now = search rules in
    let next = next-cut c.loop-segment.before (length c.as_slice-rows.result.now) c.loop-segment.segment c.as_slice-cuts.result.now no_cut within c.loop-segment.invariant.rise in
    cuts-within _ _ _ next.1

pub returns : goal.returns
returns c =
    let done = segments-end c.as_slice-tenants.result.now c.args.finals.now c.as_slice-rows.result.now c.args.answers.now c.loop-segment.segment c.loop-segment.before c.as_slice-cuts.result.now c.loop-segment.text.items c.push_rows-2.new.text.items _ in
    on_ok_weaker c.push_rows-2.result (λ grown. let all = done (search rules) (search rules) grown c.loop-segment.invariant.text in rw (← c.as_slice-rows.ensures.value, ← c.as_slice-cuts.ensures.value, ← c.as_slice-tenants.ensures.value) all) c.push_rows-2.ensures
