use Rattle.std.proofs.Common.{◌<◌, ◌^◌, length, get_or, None, arith, rules, ◌∙◌, ap}
use Rattle.std.specs.List.{zip}
use Rattle.std.proofs.lemmas.List.{take_all}
use Rattle.quota_pool.specs.declared.moved.Moved.{Moved}
use Rattle.trace_text.specs.Drill.{taken}
use Rattle.trace_text.specs.Trace.{added}
use Rattle.trace_text.specs.declared.traces.Op.TheVariants.{Add}
use Rattle.trace_text.specs.declared.traces.Row.{Row}
use Rattle.replay_report.specs.Report.{added_to, taken_from}
use Rattle.replay_report.proofs.Lines.{length-zip}
use Rattle.replay_report.proofs.Totals.{sums-more, sums-small}
use Rattle.replay_report.proofs.sums.sums_of.Goals as goal

no_row : Row
no_row = record { at = 0; worker = 0; op = Add; tenant = 0; amount = 0 }

no_answer : Moved
no_answer = record { before = 0; moved = 0; way = None }

pub loop-i-preserved : goal.loop-i-preserved
unfolding no_row no_answer
loop-i-preserved c =
    let rows = c.args.rows.now in
    let answers = c.args.answers.now in
    let i = c.loop-i.i in
    let sums = c.loop-i.sums.items in
    let within : c.loop-i.i < length c.args.rows.now = search rules in
    let inside : (get_or rows i no_row).tenant < c.args.tenants = c.requires.tenants i no_row within in
    let fits : (get_or answers i no_answer).moved < 2 ^ 64 = search rules in
    record {
      count = search rules;
      added = sums-more (λ s. s.added) added rows answers i no_row no_answer sums c.index.result.now c.with_row.result c.args.tenants within c.requires.answers c.loop-i.invariant.count inside (rw (← c.index.ensures) c.with_row.ensures.added) c.loop-i.invariant.added;
      taken = sums-more (λ s. s.taken) taken rows answers i no_row no_answer sums c.index.result.now c.with_row.result c.args.tenants within c.requires.answers c.loop-i.invariant.count inside (rw (← c.index.ensures) c.with_row.ensures.taken) c.loop-i.invariant.taken;
      few_added = sums-small (λ s. s.added) sums (get_or rows i no_row).tenant i (get_or answers i no_answer).moved c.args.tenants c.index.result.now c.with_row.result c.loop-i.invariant.count inside fits (rw (← c.index.ensures) c.with_row.ensures.small.0) c.loop-i.invariant.few_added;
      few_taken = sums-small (λ s. s.taken) sums (get_or rows i no_row).tenant i (get_or answers i no_answer).moved c.args.tenants c.index.result.now c.with_row.result c.loop-i.invariant.count inside fits (rw (← c.index.ensures) c.with_row.ensures.small.1) c.loop-i.invariant.few_taken;
    }

pub returns-clause-added : goal.returns-clause-added
returns-clause-added c =
    λ tenant d less.
    let count = length-zip c.args.rows.now c.args.answers.now (omega arith) in
    c.loop-i.invariant.added tenant d less ∙ ap (added_to tenant) (take_all c.loop-i.i (zip c.args.rows.now c.args.answers.now) (omega arith))

pub returns-clause-taken : goal.returns-clause-taken
returns-clause-taken c =
    λ tenant d less.
    let count = length-zip c.args.rows.now c.args.answers.now (omega arith) in
    c.loop-i.invariant.taken tenant d less ∙ ap (taken_from tenant) (take_all c.loop-i.i (zip c.args.rows.now c.args.answers.now) (omega arith))
